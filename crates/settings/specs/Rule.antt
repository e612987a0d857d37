-- The one rule by which every field is read.
use Rattle.std.specs.Prelude.{◌≡◌, ℕ, ◌+◌, ◌*◌, cond, not, List, length, take, drop, Some, None, Ok, Err, Option, Result, ◌==◌, nat_lt, slice_index}
use Rattle.std.specs.List.{between}
use Rattle.refusal.specs.declared.Refusal.{Refusal}
use Rattle.refusal.specs.declared.Reason.TheVariants.{FieldMissing, UnexpectedTag, WrongLength, ValueCut, ValueOutOfRange}
use Rattle.refusal.specs.Refusals.{refusal}
use Rattle.settings.specs.declared.field.Field.{Field}
use Rattle.settings.specs.Fields.{tag_of, size_of, place_of}

infixl 10 ◌and_then◌
-- with what was read reading goes on, and a refusal stays
abbrev pub ◌and_then◌ : {A B : Type 0} → Result A Refusal → (A → Result B Refusal) → Result B Refusal
Err e and_then next = Err e
Ok a and_then next = next a

-- a value and the bytes behind its field
pub record Taken (V : Type 0) : Type 0 where
  pub value : V
  pub rest : List ℕ

-- the bytes behind a field's tag and length
abbrev pub behind : List ℕ → List ℕ
behind bytes = between 3 (length bytes) bytes

-- a field cut off the head of these bytes: the first fault wins
abbrev pub cut : Field → List ℕ → Result (Taken (List ℕ)) Refusal
cut f bytes =
    cond (nat_lt (length bytes) 3) (Err (refusal FieldMissing (place_of f)))
    (cond (not (slice_index bytes 0 == tag_of f)) (Err (refusal UnexpectedTag (place_of f)))
    (cond (not (slice_index bytes 1 * 256 + slice_index bytes 2 == size_of f)) (Err (refusal WrongLength (place_of f)))
    (cond (nat_lt (length (behind bytes)) (size_of f)) (Err (refusal ValueCut (place_of f)))
    (Ok (record { value = take (size_of f) (behind bytes); rest = drop (size_of f) (behind bytes) })))))

-- the value that the bytes of a field are
abbrev pub valued : {V : Type 0} → Field → List ℕ → Option V → Result (Taken V) Refusal
valued f rest None = Err (refusal ValueOutOfRange (place_of f))
valued f rest (Some v) = Ok (record { value = v; rest = rest })

-- a field cut off, and its value read
abbrev pub taken : {V : Type 0} → Field → (List ℕ → Option V) → List ℕ → Result (Taken V) Refusal
taken f reads bytes = cut f bytes and_then (λ t. valued f t.rest (reads t.value))

-- what a call answers that takes a field: what was taken, with these bytes left behind it, or the refusal
abbrev pub Takes : {W V : Type 0} → (W → V) → Result (Taken V) Refusal → List ℕ → Result W Refusal → Type 0
Takes view field after (Ok w) = field ≡ Ok (record { value = view w; rest = after })
Takes view field after (Err e) = field ≡ Err e
