-- The table of fields: tags, lengths and places.
use Rattle.std.specs.Prelude.{ℕ, ◌/◌, ◌%◌, List, ◌∷◌, ◌++◌, length, take, drop}
use Rattle.settings.specs.declared.field.Field.{Field}
use Rattle.settings.specs.declared.field.Field.TheVariants.{Mode, Direction, End, Load, Evaluation, BInverted, DiFunction, GateInputInverted, Gate, Synchronisation, Output1, Output2}

-- the tag of a field
abbrev pub tag_of : Field → ℕ
tag_of Mode = 1
tag_of Direction = 2
tag_of End = 3
tag_of Load = 4
tag_of Evaluation = 5
tag_of BInverted = 6
tag_of DiFunction = 7
tag_of GateInputInverted = 8
tag_of Gate = 9
tag_of Synchronisation = 10
tag_of Output1 = 11
tag_of Output2 = 12

-- how many bytes its value has
abbrev pub size_of : Field → ℕ
size_of Mode = 1
size_of Direction = 1
size_of End = 4
size_of Load = 4
size_of Evaluation = 1
size_of BInverted = 1
size_of DiFunction = 1
size_of GateInputInverted = 1
size_of Gate = 1
size_of Synchronisation = 1
size_of Output1 = 7
size_of Output2 = 7

-- where its first byte stands in a record
abbrev pub place_of : Field → ℕ
place_of Mode = 0
place_of Direction = 4
place_of End = 8
place_of Load = 15
place_of Evaluation = 22
place_of BInverted = 26
place_of DiFunction = 30
place_of GateInputInverted = 34
place_of Gate = 38
place_of Synchronisation = 42
place_of Output1 = 46
place_of Output2 = 56

-- the bytes of a whole record
abbrev pub record_size : ℕ
record_size = 66

-- a field as it stands in a record: tag, length with its higher byte first, value
abbrev pub written : Field → List ℕ → List ℕ
written f value = tag_of f ∷ (size_of f / 256) ∷ (size_of f % 256) ∷ value

-- some bytes put over others from a place on
abbrev pub overlaid : ℕ → List ℕ → List ℕ → List ℕ
overlaid place bytes buffer = take place buffer ++ (bytes ++ drop (length bytes) (drop place buffer))
