-- How the logic stores a cause: by its number.
use Rattle.std.specs.Prelude.{◌≡◌, ℕ, ◌==◌, if◌then◌else◌, refl, Option}
use Rattle.std.specs.Coded.{Coded, code_by, coded_ℕ, coded_option}
use Rattle.td_tree.specs.model.Causes.{number_of}
use Rattle.td_tree.specs.declared.cause.Cause.{Cause}
use Rattle.td_tree.specs.declared.cause.Cause.TheVariants.{Scan, Syntax, NameUnknown, NameTaken, TypeMismatch, Heading, KeyDeclaration, Rank, InUse, NotAssignable, Transaction, Overflow, ZeroDivisor, EmptyAggregate, NotOneTuple, TypeConstraint, NotDisjoint, NotIncluded, Key, Constraint}

abbrev cause_numbered : ℕ → Cause
cause_numbered n =
    if n == 1 then Scan
    else if n == 2 then Syntax
    else if n == 3 then NameUnknown
    else if n == 4 then NameTaken
    else if n == 5 then TypeMismatch
    else if n == 6 then Heading
    else if n == 7 then KeyDeclaration
    else if n == 8 then Rank
    else if n == 9 then InUse
    else if n == 10 then NotAssignable
    else if n == 11 then Transaction
    else if n == 20 then Overflow
    else if n == 21 then ZeroDivisor
    else if n == 22 then EmptyAggregate
    else if n == 23 then NotOneTuple
    else if n == 24 then TypeConstraint
    else if n == 25 then NotDisjoint
    else if n == 26 then NotIncluded
    else if n == 30 then Key
    else Constraint

pub numbered_number : (c : Cause) → cause_numbered (number_of c) ≡ c
numbered_number Scan = refl
numbered_number Syntax = refl
numbered_number NameUnknown = refl
numbered_number NameTaken = refl
numbered_number TypeMismatch = refl
numbered_number Heading = refl
numbered_number KeyDeclaration = refl
numbered_number Rank = refl
numbered_number InUse = refl
numbered_number NotAssignable = refl
numbered_number Transaction = refl
numbered_number Overflow = refl
numbered_number ZeroDivisor = refl
numbered_number EmptyAggregate = refl
numbered_number NotOneTuple = refl
numbered_number TypeConstraint = refl
numbered_number NotDisjoint = refl
numbered_number NotIncluded = refl
numbered_number Key = refl
numbered_number Constraint = refl

abbrev pub cause_code : Coded Cause
cause_code = code_by ℕ coded_ℕ number_of cause_numbered numbered_number

abbrev pub cause_if_any_code : Coded (Option Cause)
cause_if_any_code = coded_option cause_code
