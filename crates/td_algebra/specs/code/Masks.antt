-- What a mask keeps of a list (this project's own).
use Rattle.std.specs.Prelude.{Bool, List, [], ◌∷◌, if◌then◌else◌}

-- the items whose places in the mask are true
abbrev pub kept_by : {X : Type 0} → List Bool → List X → List X
kept_by [] xs = []
kept_by (b ∷ bs) [] = []
kept_by (b ∷ bs) (x ∷ xs) = if b then x ∷ kept_by bs xs else kept_by bs xs
