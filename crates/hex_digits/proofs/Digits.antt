-- Bytes that were read, before those that are left to read.
use Rattle.std.proofs.Common.{◌≡◌, ℕ, ◌-◌, ◌≤◌, List, [], ◌∷◌, ◌++◌, length, get_or, take, drop, Some, None, Option, sym, refl, ap, ◌∙◌, append_assoc, arith}
use Rattle.std.proofs.lemmas.List.{take_rest}
use Rattle.hex_digits.specs.Hex.{digit_value, byte_value, joined, decoded}

-- some bytes before others
abbrev pub before : List ℕ → Option (List ℕ) → Option (List ℕ)
before front None = None
before front (Some bytes) = Some (front ++ bytes)

before_joined : (front : List ℕ) (b : ℕ) (bytes : Option (List ℕ)) → before (front ++ (b ∷ [])) bytes ≡ before front (joined (Some b) bytes)
before_joined front b None = refl
before_joined front b (Some bytes) = ap Some (append_assoc front (b ∷ []) bytes)

-- a pair of digits taken off, and its byte put behind those before
pub step : (front rest : List ℕ) (b : ℕ) → 2 ≤ length rest → byte_value (digit_value (get_or rest 0 0)) (digit_value (get_or rest 1 0)) ≡ Some b → before (front ++ (b ∷ [])) (decoded (take (length rest - 2) (drop 2 rest))) ≡ before front (decoded rest)
step front [] b long is = absurd (omega arith)
step front (high ∷ []) b long is = absurd (omega arith)
step front (high ∷ low ∷ rest) b long is =
    rw (take_rest (high ∷ low ∷ rest) 2) (before_joined front b (decoded rest) ∙ ap (λ o. before front (joined o (decoded rest))) (sym is))
