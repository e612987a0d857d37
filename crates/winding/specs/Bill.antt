-- From a reading to a length, and how a bill is written.
use Rattle.std.specs.Prelude.{ℕ, ◌*◌, ◌/◌, ◌%◌, cond, List, [], ◌++◌, ℤ, pos, ◌*ℤ◌, codes, decimal, int_lt, unsigned_abs}
use Rattle.std.specs.Int.{int_div_euclid}
use Rattle.std.specs.Fmt.{signed_decimal}
use Rattle.encoder.specs.declared.inversion.Staged.{Staged}
use Rattle.encoder.specs.declared.inversion.Staged.TheVariants as staged
use Rattle.encoder.specs.declared.picked.PickedEvaluation.{PickedEvaluation}
use Rattle.encoder.specs.declared.picked.PickedEvaluation.TheVariants.{PulseDirection, Single, Double, Quadruple}
use Rattle.winding.specs.declared.bill.Bill.{Bill}
use Rattle.winding.specs.declared.tally.Tally.{Tally}
use Rattle.winding.specs.declared.wheel.Wheel.{Wheel}
use Rattle.winding.specs.Winding.{Sums}

-- the evaluation behind the inversion stage, or without one
abbrev pub evaluation_of : Staged PickedEvaluation → PickedEvaluation
evaluation_of (staged.Direct e) = e
evaluation_of (staged.Inverted s) = s.inner

-- how many pulses an evaluation counts in one turn of the wheel
abbrev pub pulses_per_turn : Wheel → PickedEvaluation → ℕ
pulses_per_turn w PulseDirection = w.lines
pulses_per_turn w Single = w.lines
pulses_per_turn w Double = 2 * w.lines
pulses_per_turn w Quadruple = 4 * w.lines

-- millimetres, rounded down, where this evaluation counted the pulses: a turn of the wheel is its
-- circumference in micrometres
abbrev pub millimetres : Wheel → PickedEvaluation → ℤ → ℤ
millimetres w evaluation reading =
    int_div_euclid (reading *ℤ pos w.circumference) (pos (1000 * pulses_per_turn w evaluation))

-- the bill for a tally and a reading: length and time in thousandths, of metres and of seconds
abbrev pub bill_of : Wheel → PickedEvaluation → Tally → ℤ → Bill
bill_of w evaluation tally reading = record {
  tally = tally;
  reading = reading;
  length = record { 0 = millimetres w evaluation reading };
  time = record { 0 = pos (tally.elapsed / 1000) };
}

-- thousandths with the point: sign, whole part, three digits
abbrev pub thousandths_text : ℤ → List ℕ
thousandths_text n =
    cond (int_lt n (pos 0)) (codes "-") []
    ++ (decimal (unsigned_abs n / 1000) ++ (codes "." ++ (decimal (unsigned_abs n / 100 % 10) ++ (decimal (unsigned_abs n / 10 % 10) ++ decimal (unsigned_abs n % 10)))))

-- a bill, a line for each item: what the tally has, and what it comes to
abbrev pub tally_text : Sums → List ℕ
tally_text s =
    codes "samples        " ++ (decimal s.samples
    ++ (codes "\npulses up      " ++ (decimal s.up
    ++ (codes "\npulses down    " ++ (decimal s.down
    ++ (codes "\nsignal errors  " ++ decimal s.doubles))))))

abbrev pub bill_text : Sums → ℤ → ℤ → ℤ → List ℕ
bill_text s reading length time =
    tally_text s
    ++ (codes "\nreading        " ++ (signed_decimal reading
    ++ (codes "\nlength         " ++ (thousandths_text length
    ++ (codes " m\nelapsed        " ++ (thousandths_text time ++ codes " s"))))))
