-- Where the tokens of a script stand (this project's own).
use Rattle.std.specs.Prelude.{◌≡◌, ℕ, ◌-◌, ◌<◌, ◌≤◌, List, [], ◌∷◌, take, drop, Some, ⊤}
use Rattle.td_tree.specs.declared.token.Kind.TheVariants as kinds
use Rattle.td_tree.specs.model.Pieces.{kind_of}
use Rattle.td_tree.specs.model.Statements.{PlacedToken}
use Rattle.td_tree.specs.model.Symbols.{symbols}
use Rattle.td_tree.specs.model.TextTokens.{IsQuotedText}

-- each token is the slice of the script at its span
abbrev pub AreSlices : List ℕ → List PlacedToken → Type 0
AreSlices script [] = ⊤
AreSlices script (t ∷ ts) =
    (t.text ≡ take (t.stop - t.start) (drop t.start script)) × AreSlices script ts

-- what a token is, its bytes say
abbrev pub AreOfTheirKind : List PlacedToken → Type 0
AreOfTheirKind [] = ⊤
AreOfTheirKind (t ∷ ts) = (kind_of (symbols t.text) ≡ Some t.kind) × AreOfTheirKind ts

-- the bytes of each text are a text in quotes that says UTF-8
abbrev pub AreTexts : List PlacedToken → Type 0
AreTexts [] = ⊤
AreTexts (t ∷ ts) = (t.kind ≡ kinds.Text → IsQuotedText t.text) × AreTexts ts

-- each token has a byte and begins where the one before it ends or behind it, from the first offset
-- to the last
abbrev pub Ascends : ℕ → ℕ → List PlacedToken → Type 0
Ascends from to [] = from ≤ to
Ascends from to (t ∷ ts) = (from ≤ t.start) × (t.start < t.stop) × Ascends t.stop to ts
