-- What stands on the lines of a capture.
use Rattle.std.specs.Prelude.{◌≡◌, ℕ, ◌*◌, ◌^◌, ◌<◌, Bool, false, cond, not, ◌⊎◌, List, [], ◌∷◌, ◌++◌, Some, None, Ok, Err, codes, Option, Result, ◌==◌, ◌≢◌, nat_lt}
use Rattle.std.specs.Borrow.{Bor}
use Rattle.std.specs.Str.Parse.{IsNumeral, digits_value, without_leading_plus}
use Rattle.encoder.specs.declared.lines.Levels.{Levels}
use Rattle.encoder.specs.Lines.{levels_of}
use Rattle.winding.specs.declared.wheel.Wheel.{Wheel}
use Rattle.winding.specs.declared.winding.Sample.{Sample}
use Rattle.encoder.specs.Evaluations.{Answers}
use Rattle.winding.specs.declared.capture.LineFault.{LineFault}
use Rattle.winding.specs.declared.capture.LineFault.TheVariants.{NotTwoNumbers, ZeroInWheel, TimeTooLong, LevelsOutOfRange, NoRoom}
use Rattle.winding.specs.Winding.{Sums, State, has_room, wound}

-- what is wrong with a line, in plain words
abbrev pub fault_words : LineFault → List ℕ
fault_words NotTwoNumbers = codes "not two decimal numbers with one blank between"
fault_words ZeroInWheel = codes "the circumference and the lines per turn must be above 0"
fault_words TimeTooLong = codes "the time is above 1,000,000 microseconds"
fault_words LevelsOutOfRange = codes "the level byte is above 7"
fault_words NoRoom = codes "the tally has no room for another sample"

-- an empty line bears no data, nor does one that begins with `#`
abbrev pub bears_data : List ℕ → Bool
bears_data [] = false
bears_data (c ∷ cs) = not (c == 35)

-- a line of the record is `record `, and digits behind it
abbrev pub RecordLine : List ℕ → Option (Bor (List ℕ)) → Type 0
RecordLine line None = (digits : List ℕ) → line ≢ codes "record " ++ digits
RecordLine line (Some digits) = line ≡ codes "record " ++ digits.now

-- the text is a decimal number below 2 ^ 32, namely n; a `+` may stand in front
pub record Number (text : List ℕ) (n : ℕ) : Type 0 where
  pub digits : IsNumeral 10 (without_leading_plus text)
  pub small : digits_value 10 (without_leading_plus text) < 2 ^ 32
  pub is : n ≡ digits_value 10 (without_leading_plus text)

-- the line is the numbers a and b, with one blank between
pub record TwoNumbers (line : List ℕ) (a b : ℕ) : Type 0 where
  pub first : List ℕ
  pub second : List ℕ
  pub parts : line ≡ first ++ (32 ∷ second)
  pub first_is : Number first a
  pub second_is : Number second b

-- the sample with this time and this level byte
abbrev at_levels : ℕ → Option Levels → Result Sample LineFault
at_levels time None = Err LevelsOutOfRange
at_levels time (Some levels) = Ok (record { elapsed = time; levels = levels })

abbrev pub sample_of : ℕ → ℕ → Result Sample LineFault
sample_of time byte = cond (nat_lt 1000000 time) (Err TimeTooLong) (at_levels time (levels_of byte))

-- a wheel is made exactly of two numbers above 0
abbrev pub Wheels : ℕ → ℕ → Result Wheel LineFault → Type 0
Wheels circumference lines (Ok w) = (w.circumference ≡ circumference) × (w.lines ≡ lines)
Wheels circumference lines (Err e) = (e ≡ ZeroInWheel) × (circumference * lines ≡ 0)

-- a line's answer is made of its two numbers, or says that it has none
abbrev pub Answered : {T : Type 0} → (ℕ → ℕ → Result T LineFault → Type 0) → List ℕ → Result T LineFault → Type 0
Answered Makes line r =
    ((a : ℕ) × (b : ℕ) × TwoNumbers line a b × Makes a b r)
    ⊎ (((a b : ℕ) → TwoNumbers line a b → ⊥) × (r ≡ Err NotTwoNumbers))

abbrev pub Samples : ℕ → ℕ → Result Sample LineFault → Type 0
Samples time byte r = r ≡ sample_of time byte

-- what winding a line answers: its sample is wound where the tally has room
abbrev wind_answer : Sums → Result Sample LineFault → Result (Unit {0}) LineFault
wind_answer sums (Err fault) = Err fault
wind_answer sums (Ok s) = cond (has_room sums s.elapsed) (Ok tt) (Err NoRoom)

abbrev wind_state : Answers → State → Result Sample LineFault → State
wind_state answers w (Err fault) = w
wind_state answers w (Ok s) = cond (has_room w.sums s.elapsed) (wound answers s w) w

-- a line winds the sample of its two numbers, and a line without leaves all as it was
abbrev pub WindsLine : Answers → List ℕ → State → State → Result (Unit {0}) LineFault → Type 0
WindsLine answers line before after r =
    ((a : ℕ) × (b : ℕ) × TwoNumbers line a b × (r ≡ wind_answer before.sums (sample_of a b)) × (after ≡ wind_state answers before (sample_of a b)))
    ⊎ (((a b : ℕ) → TwoNumbers line a b → ⊥) × (r ≡ Err NotTwoNumbers) × (after ≡ before))
