-- Bytes as hexadecimal digits.
use Rattle.std.specs.Prelude.{◌≡◌, ℕ, ◌+◌, ◌-◌, ◌*◌, ◌≤◌, cond, ◌&&◌, List, [], ◌∷◌, length, codes, Some, None, Ok, Err, Option, Result, nat_le}
use Rattle.hex_digits.specs.declared.HexFault.{HexFault}
use Rattle.hex_digits.specs.declared.HexFault.TheVariants.{NotHex, NoMemory}

-- a fault in plain words
abbrev pub fault_words : HexFault → List ℕ
fault_words NotHex = codes "not pairs of hexadecimal digits"
fault_words NoMemory = codes "the memory does not hold the bytes"

-- the value of a digit by its character: `0` to `9`, `a` to `f`, `A` to `F`
abbrev pub digit_value : ℕ → Option ℕ
digit_value c =
    cond (nat_le 48 c && nat_le c 57) (Some (c - 48))
    (cond (nat_le 97 c && nat_le c 102) (Some (c - 97 + 10))
    (cond (nat_le 65 c && nat_le c 70) (Some (c - 65 + 10)) None))

-- the byte that two digits make
abbrev pub byte_value : Option ℕ → Option ℕ → Option ℕ
byte_value None low = None
byte_value (Some h) None = None
byte_value (Some h) (Some l) = Some (h * 16 + l)

-- a byte before others
abbrev pub joined : Option ℕ → Option (List ℕ) → Option (List ℕ)
joined None bytes = None
joined (Some b) None = None
joined (Some b) (Some bytes) = Some (b ∷ bytes)

-- the bytes that digits stand for; none, where these are no pairs of digits
abbrev pub decoded : List ℕ → Option (List ℕ)
decoded [] = Some []
decoded (high ∷ []) = None
decoded (high ∷ low ∷ rest) = joined (byte_value (digit_value high) (digit_value low)) (decoded rest)

-- a reader answers these bytes, or that there are none; memory can give out only where there is a byte to keep
abbrev pub Reads : {V : Type 0} → (V → List ℕ) → List ℕ → Result V HexFault → Type 0
Reads items digits (Ok v) = decoded digits ≡ Some (items v)
Reads items digits (Err NotHex) = decoded digits ≡ None
Reads items digits (Err NoMemory) = 2 ≤ length digits
