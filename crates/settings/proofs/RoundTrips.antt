-- Both round trips.
use Rattle.std.proofs.Common.{◌≡◌, ℕ, Bool, true, false, cond, not, ◌&&◌, List, [], ◌∷◌, ℤ, pos, negsuc, ◌≤ℤ◌, is_some, Some, None, Ok, Err, Option, Result, refl, ap, ◌∙◌, arith, rules, get_or, w8, Fits, w32, SFits, to_z, of_z}
use Rattle.std.proofs.lemmas.Bool.{and_parts}
use Rattle.std.proofs.lemmas.Int.{ints, to_z-of_z}
use Rattle.std.specs.List.{AllByRecursion as All}
use Rattle.std.proofs.ByRecursion.{All-from_get_or}
use Rattle.refusal.specs.declared.Refusal.{Refusal}
use Rattle.refusal.specs.declared.Reason.{Reason}
use Rattle.refusal.specs.declared.Reason.TheVariants.{ValueOutOfRange, FieldsConflict}
use Rattle.settings.specs.declared.field.Field.{Field}
use Rattle.settings.specs.declared.choices.Choices.{Choices}
use Rattle.counter.specs.declared.mode.Mode.{Mode}
use Rattle.counter.specs.declared.mode.MainDirection.{MainDirection}
use Rattle.counter.specs.Counting.{LOW, HIGH, accepts}
use Rattle.counter.specs.Rows.{row, has_row, end_fits, row_fits}
use Rattle.settings.specs.Values.{duration_fits, modes, directions, evaluations, flags, di_functions, gate_functions, synchronisations, mode_code, direction_code, evaluation_code, flag_code, di_code, gate_code, synchronisation_code}
use Rattle.settings.specs.Record.{choices_read, record_of, verdict, Gives, AcceptsOwn}
use Rattle.settings.specs.Rule.{◌and_then◌}
use Rattle.settings.specs.Checks.{Finding, first_wrong, within, ranges, conflicts, first_out_of_range, first_conflict, unless, ranged, checked, agreed, keeps}
use Rattle.settings.specs.declared.field.Field.TheVariants as field
use Rattle.settings.proofs.Reading.{field_owns, ended}
use Rattle.settings.proofs.Values.{backs, Byte, coded_own, number_own, end_own, output_own}

pub record Numbers (c : Choices) : Type 0 where
  pub end : SFits w32 c.end
  pub load : SFits w32 c.load
  pub first : SFits w32 c.output1.comparison
  pub second : SFits w32 c.output2.comparison

-- by whether the end value and the two durations are in their ranges
ranged_by : (c : Choices) (b d e : Bool) → end_fits c.end ≡ b → duration_fits c.output1.duration ≡ d → duration_fits c.output2.duration ≡ e → SFits w32 c.end → SFits w32 c.load → SFits w32 c.output1.comparison → SFits w32 c.output2.comparison → choices_read (record_of c) ≡ ranged c
ranged_by c false d e hb hd he end load first second = simp (backs, hb, ranged)
ranged_by c true false e hb hd he end load first second = simp (backs, hb, hd, ranged)
ranged_by c true true false hb hd he end load first second = simp (backs, hb, hd, he, ranged)
ranged_by c true true true hb hd he end load first second = simp (backs, hb, hd, he, ranged)

-- so the verdict on the record of some choices
pub verdict_record : (c : Choices) → Numbers c → verdict (record_of c) ≡ checked c
verdict_record c n = ap (λ r. r and_then agreed) (ranged_by c (end_fits c.end) (duration_fits c.output1.duration) (duration_fits c.output2.duration) refl refl refl n.end n.load n.first n.second)

-- a record whose fields were read is the record of the choices that were read
pub own_record : (bytes : List ℕ) (c : Choices) → ((i : ℕ) → Fits w8 (get_or bytes i 0)) → choices_read bytes ≡ Ok c → bytes ≡ record_of c
own_record bytes c fit e =
    let all : All Byte bytes = All-from_get_or Byte bytes 0 (λ i l. omega (arith, fit i)) in
    field_owns field.Mode _ _ (coded_own mode_code modes) bytes all e (λ mode r1 all1 e1 s1.
    field_owns field.Direction _ _ (coded_own direction_code directions) r1 all1 e1 (λ direction r2 all2 e2 s2.
    field_owns field.End _ _ end_own r2 all2 e2 (λ end r3 all3 e3 s3.
    field_owns field.Load _ _ number_own r3 all3 e3 (λ load r4 all4 e4 s4.
    field_owns field.Evaluation _ _ (coded_own evaluation_code evaluations) r4 all4 e4 (λ evaluation r5 all5 e5 s5.
    field_owns field.BInverted _ _ (coded_own flag_code flags) r5 all5 e5 (λ b_inverted r6 all6 e6 s6.
    field_owns field.DiFunction _ _ (coded_own di_code di_functions) r6 all6 e6 (λ di r7 all7 e7 s7.
    field_owns field.GateInputInverted _ _ (coded_own flag_code flags) r7 all7 e7 (λ gate_inverted r8 all8 e8 s8.
    field_owns field.Gate _ _ (coded_own gate_code gate_functions) r8 all8 e8 (λ gate r9 all9 e9 s9.
    field_owns field.Synchronisation _ _ (coded_own synchronisation_code synchronisations) r9 all9 e9 (λ synchronisation r10 all10 e10 s10.
    field_owns field.Output1 _ _ output_own r10 all10 e10 (λ output1 r11 all11 e11 s11.
    field_owns field.Output2 _ _ output_own r11 all11 e11 (λ output2 r12 all12 e12 s12.
    let end_of = ended _ r12 c e12 in
    rw (s1, s2, s3, s4, s5, s6, s7, s8, s9, s10, s11, s12, end_of.0, end_of.1) refl))))))))))))

-- what agreement accepts it leaves as it is
unless_same : (reason : Reason) (o : Option Field) (c d : Choices) → unless reason o c ≡ Ok d → c ≡ d
unless_same reason None c d e = cc
unless_same reason (Some f) c d e = cc

verdict_same : (r : Result Choices Refusal) (c : Choices) → (r and_then agreed) ≡ Ok c → r ≡ Ok c
verdict_same (Err refused) c e = cc
verdict_same (Ok d) c e = ap Ok (unless_same FieldsConflict (first_conflict d) d c e)

-- choices that keep to everything are accepted
unless_none : (reason : Reason) (o : Option Field) (c : Choices) → not (is_some o) ≡ true → unless reason o c ≡ Ok c
unless_none reason None c h = refl
unless_none reason (Some f) c h = cc

kept_checked : (c : Choices) → keeps c ≡ true → checked c ≡ Ok c
kept_checked c kept =
    let both = and_parts (not (is_some (first_out_of_range c))) (not (is_some (first_conflict c))) kept in
    ap (λ r. r and_then agreed) (unless_none ValueOutOfRange (first_out_of_range c) c both.0) ∙ unless_none FieldsConflict (first_conflict c) c both.1

-- nothing is wrong with them
abbrev Right : Finding → Type 0
Right f = f.wrong ≡ false

none_by : (f : Finding) (fs : List Finding) (b : Bool) → f.wrong ≡ b → (not (is_some (first_wrong fs)) ≡ true → All Right fs) → not (is_some (cond b (Some f.field) (first_wrong fs))) ≡ true → All Right (f ∷ fs)
none_by f fs true is later e = absurd cc
none_by f fs false is later e = (is, later e)

none_wrong : (fs : List Finding) → not (is_some (first_wrong fs)) ≡ true → All Right fs
none_wrong [] h = tt
none_wrong (f ∷ fs) h = none_by f fs f.wrong refl (none_wrong fs) h

kept_right : (c : Choices) → keeps c ≡ true → All Right (ranges c) × All Right (conflicts c)
kept_right c kept =
    let both = and_parts (not (is_some (first_out_of_range c))) (not (is_some (first_conflict c))) kept in
    (none_wrong (ranges c) both.0, none_wrong (conflicts c) both.1)

-- their numbers fit 32 bits
fits_by : (z : ℤ) → LOW ≤ℤ z → z ≤ℤ HIGH → SFits w32 z
fits_by (pos n) l h = record { sfits = omega (arith, ints) }
fits_by (negsuc n) l h = record { sfits = omega (arith, ints) }

within_fits : (m : Mode) (d : MainDirection) (end load value : ℤ) → not (end_fits end) ≡ false → not (accepts (row m d end load) value) ≡ false → SFits w32 value
within_fits m d end load value e w = fits_by value (grind (arith, ints)) (grind (arith, ints))

pub kept_numbers : (c : Choices) → keeps c ≡ true → Numbers c
kept_numbers c kept =
    let right = kept_right c kept in
    let end : not (end_fits c.end) ≡ false = right.0.0 in
    let fit : (value : ℤ) → not (within c value) ≡ false → SFits w32 value = λ value. within_fits c.mode c.direction c.end c.load value end in
    record { end = fits_by c.end (grind (arith, ints)) (grind (arith, ints)); load = fit c.load right.1.1.0; first = fit c.output1.comparison right.1.1.1.1.0; second = fit c.output2.comparison right.1.1.1.1.1.0 }

-- and there is a counter of theirs
all_three : (a b c : Bool) → not a ≡ false → not b ≡ false → not c ≡ false → (a && (b && c)) ≡ true
all_three a b c x y z = search rules

pub kept_row : (c : Choices) → keeps c ≡ true → row_fits c.mode c.direction c.end c.load ≡ true
kept_row c kept =
    let right = kept_right c kept in
    all_three (has_row c.mode c.direction) (end_fits c.end) (within c c.load) right.1.0 right.0.0 right.1.1.0

pub has_counter : (c : Choices) → keeps c ≡ true → row_fits c.mode c.direction (to_z w32 (of_z w32 c.end)) (to_z w32 (of_z w32 c.load)) ≡ true
has_counter c kept =
    let numbers = kept_numbers c kept in
    let end : SFits w32 c.end = numbers.end in
    let load : SFits w32 c.load = numbers.load in
    simp to_z-of_z (kept_row c kept)

-- so the record of such choices is accepted as theirs
pub record_back : (c : Choices) → keeps c ≡ true → verdict (record_of c) ≡ Ok c
record_back c kept = verdict_record c (kept_numbers c kept) ∙ kept_checked c kept

-- what is judged so is accepted exactly where it is the record of some parameters
pub accepts_own : {P : Type 0} (choices : P → Choices) → ((p : P) → keeps (choices p) ≡ true) → (bytes : List ℕ) (r : Result P Refusal) → ((i : ℕ) → Fits w8 (get_or bytes i 0)) → Gives choices r (verdict bytes) → AcceptsOwn choices bytes r
accepts_own choices kept bytes (Ok p) fit gives = own_record bytes (choices p) fit (verdict_same (choices_read bytes) (choices p) gives)
accepts_own choices kept bytes (Err refused) fit gives = λ p is.
    let ok : verdict bytes ≡ Ok (choices p) = ap verdict is ∙ record_back (choices p) (kept p) in
    cc
