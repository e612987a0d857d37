-- Where a line can be parted into two numbers, its first blank parts it.
use Rattle.std.proofs.Common.{◌≡◌, ℕ, zero, suc, ◌+◌, ◌<◌, Bool, true, false, cond, eqb, List, [], ◌∷◌, length, get_or, drop, Some, refl, ap, ◌∙◌, arith, lit<, length-append, Bor, eqb-true}
use lib.Seq.{get_or-append_seam}
use Rattle.std.specs.Str.Parse.{AllDigits}
use Rattle.std.proofs.lemmas.Str.Parse.{digit_at}
use Rattle.std.proofs.lemmas.Str.Pattern.{IsSplitOnceResult, split_after}
use Rattle.winding.specs.Capture.{Number, TwoNumbers}

-- a number holds no blank
no_blank_by : (plus : Bool) (c : ℕ) (cs : List ℕ) → eqb c 43 ≡ plus → AllDigits 10 (drop (cond plus 1 0) (c ∷ cs)) → (i : ℕ) → i < length (c ∷ cs) → get_or (c ∷ cs) i 0 ≡ 32 → ⊥
no_blank_by true c cs e ds zero h blank = omega (arith, eqb-true c 43 e)
no_blank_by true c cs e ds (suc i) h blank = omega (arith, digit_at cs i ds (omega arith))
no_blank_by false c cs e ds i h blank = omega (arith, digit_at (c ∷ cs) i ds h)

pub no_blank : (text : List ℕ) (n : ℕ) → Number text n → (i : ℕ) → i < length text → get_or text i 0 ≡ 32 → ⊥
no_blank [] n is i h blank = omega arith
no_blank (c ∷ cs) n is i h blank = no_blank_by (eqb c 43) c cs refl is.digits.1 i h blank

-- so a line with no blank is no two numbers
pub needs_blank : (line : List ℕ) (a b : ℕ) → ((i : ℕ) → i < length line → get_or line i 0 ≡ 32 → ⊥) → TwoNumbers line a b → ⊥
needs_blank line a b none two =
    let seam : get_or line (length two.first) 0 ≡ 32 = ap (λ l. get_or l (length two.first) 0) two.parts ∙ get_or-append_seam two.first 32 two.second 0 in
    let long : length line ≡ length two.first + suc (length two.second) = ap length two.parts ∙ length-append two.first (32 ∷ two.second) in
    none (length two.first) (omega arith) seam

-- and the parts at the first blank are the two numbers
pub at_first_blank : (line : List ℕ) (a b : ℕ) (x y : Bor (List ℕ)) → IsSplitOnceResult 32 line (Some (x, y)) → (two : TwoNumbers line a b) → (x.now ≡ two.first) × (y.now ≡ two.second)
at_first_blank line a b x y split two = split_after 32 line two.first two.second (Some (x, y)) split (lit< tt) two.parts (no_blank two.first a two.first_is)
