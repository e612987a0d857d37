-- The lines of an encoder: the pair of A and B, and the level byte of a sample.
use Rattle.std.specs.Prelude.{◌≡◌, ℕ, ◌/◌, ◌%◌, Bool, true, false, cond, not, ◌&&◌, Some, None, Ok, Err, Option, Result, ◌==◌, nat_lt}
use Rattle.encoder.specs.declared.lines.Pair.{Pair}
use Rattle.encoder.specs.declared.lines.Levels.{Levels}
use Rattle.encoder.specs.declared.lines.NoLevelByte.{NoLevelByte}

-- A and B at these levels
abbrev pub pair : Bool → Bool → Pair
pair a b = record { a = a; b = b }

-- the pair that differs in both lines
abbrev pub opposite : Pair → Pair
opposite p = pair (not p.a) (not p.b)

-- the pair with B inverted
abbrev pub invert_b : Pair → Pair
invert_b p = pair p.a (not p.b)

-- two levels differ
abbrev differ : Bool → Bool → Bool
differ true y = not y
differ false y = y

-- both lines differ
abbrev pub both_differ : Pair → Pair → Bool
both_differ p q = differ p.a q.a && differ p.b q.b

-- the lowest bit is set
abbrev odd : ℕ → Bool
odd n = n % 2 == 1

-- A is bit 0, B bit 1 and DI bit 2 of the level byte
abbrev pub levels_in : ℕ → Levels
levels_in n = record { pair = pair (odd n) (odd (n / 2)); di = odd (n / 4) }

-- a level byte above 7 says nothing
abbrev pub levels_of : ℕ → Option Levels
levels_of n = cond (nat_lt n 8) (Some (levels_in n)) None

-- the levels of a byte, or the error that it has none
abbrev pub LevelsOf : ℕ → Result Levels NoLevelByte → Type 0
LevelsOf n (Ok levels) = levels_of n ≡ Some levels
LevelsOf n (Err e) = levels_of n ≡ None
