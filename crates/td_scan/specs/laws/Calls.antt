-- Lists of calls of a cutter, and what they have taken off (this project's own).
use Rattle.std.specs.Prelude.{ℕ, Bool, true, false, ◌&&◌, not, List, [], ◌∷◌, ◌++◌, Option, Some, None, IsTrue}
use Rattle.td_tree.specs.model.Statements.{PlacedToken, Held, first_statement, statements, after}

-- a call: these bytes are fed, no more will be, or the first statement is taken off
pub data Call : Type 0 where
  Feed : List ℕ → Call
  Finish : Call
  Take : Call

-- what was fed in all, what is held of it, and the statements that were taken off
pub record Course : Type 0 where
  pub fed : List ℕ
  pub held : Held
  pub taken : List (List PlacedToken)

-- at first nothing was fed
abbrev pub at_first : Course
at_first =
    record { fed = []; held = record { bytes = []; offset = 0; finished = false }; taken = [] }

-- a statement, if there is one
abbrev pub statements_of : Option (List PlacedToken) → List (List PlacedToken)
statements_of None = []
statements_of (Some first) = first ∷ []

-- one call, as the contracts of the cutter say it
abbrev pub course_after : Course → Call → Course
course_after c (Feed piece) =
    record {
      fed = c.fed ++ piece;
      held = record c.held { bytes = c.held.bytes ++ piece };
      taken = c.taken;
    }
course_after c Finish = record { fed = c.fed; held = record c.held { finished = true }; taken = c.taken }
course_after c Take =
    record { fed = c.fed; held = after c.held; taken = c.taken ++ statements_of (first_statement c.held) }

-- the calls in order
abbrev pub all_called : Course → List Call → Course
all_called c [] = c
all_called c (call ∷ calls) = all_called (course_after c call) calls

-- nothing is fed once no more will be
abbrev pub may_be_called : Bool → List Call → Bool
may_be_called finished [] = true
may_be_called finished (Feed piece ∷ calls) = not finished && may_be_called finished calls
may_be_called finished (Finish ∷ calls) = may_be_called true calls
may_be_called finished (Take ∷ calls) = may_be_called finished calls

-- calls that a new cutter takes
abbrev pub IsAllowed : List Call → Type 0
IsAllowed calls = IsTrue (may_be_called false calls)

-- the course that some calls lead to from a new cutter
abbrev pub course : List Call → Course
course calls = all_called at_first calls

-- the statements of what is held
abbrev pub statements_held : Held → List (List PlacedToken)
statements_held h = statements h.offset h.bytes

-- the statements of what is held, with more bytes behind it
abbrev pub statements_before : Held → List ℕ → List (List PlacedToken)
statements_before h more = statements h.offset (h.bytes ++ more)
