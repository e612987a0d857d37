-- What `{:03}` writes: a number below 1000, filled up with zeros to three digits.
use mathlib.Core.Logic.{⊎_elim}
use Rattle.std.proofs.Common.{◌≡◌, ℕ, ◌+◌, ◌/◌, ◌%◌, ◌-◌, ◌^◌, ◌<◌, ◌≤◌, false, List, [], ◌∷◌, ◌++◌, sym, refl, ap, ◌∙◌, arith}
use Rattle.std.specs.Fmt.{decimal, padded_integral, char_count, format_spec}
use Rattle.std.proofs.lemmas.Bool.{cases_lt}
use Rattle.std.proofs.lemmas.Fmt.{decimal_digit, decimal_step}

-- the last three digits of a number below 1000
abbrev last_three : ℕ → List ℕ
last_three n = (48 + n / 100) ∷ (48 + n / 10 % 10) ∷ (48 + n % 10) ∷ []

-- a number of two digits, and one of three
two_digits : (n : ℕ) → 10 ≤ n → n < 100 → decimal n ≡ (48 + n / 10) ∷ (48 + n % 10) ∷ []
two_digits n large small = decimal_step n large (omega arith) ∙ ap (λ d. d ++ ((48 + n % 10) ∷ [])) (decimal_digit (n / 10) (omega arith))

more_digits : (n : ℕ) → 100 ≤ n → n < 1000 → decimal n ≡ last_three n
more_digits n large small =
    let front : n / 10 / 10 ≡ n / 100 = omega arith in
    decimal_step n (omega arith) (omega arith)
    ∙ ap (λ d. d ++ ((48 + n % 10) ∷ [])) (two_digits (n / 10) (omega arith) (omega arith) ∙ ap (λ d. (48 + d) ∷ (48 + n / 10 % 10) ∷ []) front)

-- each is filled up to its last three digits
filled : (n : ℕ) → n < 1000 → padded_integral (format_spec 32 0 4 3 (2 ^ 64 - 1)) false [] (decimal n) ≡ last_three n
unfolding padded_integral char_count
filled n small = ⊎_elim
    (λ one.
    let a : n / 100 ≡ 0 = omega arith in
    let b : n / 10 % 10 ≡ 0 = omega arith in
    let c : n % 10 ≡ n = omega arith in
    rw (decimal_digit n one, a, b, c) refl)
    (λ ten. ⊎_elim
    (λ two.
    let a : n / 100 ≡ 0 = omega arith in
    let b : n / 10 % 10 ≡ n / 10 = omega arith in
    rw (two_digits n ten two, a, b) refl)
    (λ three. rw (more_digits n three small) refl)
    (cases_lt n 100))
    (cases_lt n 10)

-- and these are written one by one
one_by_one : (n : ℕ) → n < 1000 → decimal (n / 100) ++ (decimal (n / 10 % 10) ++ decimal (n % 10)) ≡ last_three n
one_by_one n small = rw (decimal_digit (n / 100) (omega arith), decimal_digit (n / 10 % 10) (omega arith), decimal_digit (n % 10) (omega arith)) refl

pub three_digits : (n : ℕ) → n < 1000 → padded_integral (format_spec 32 0 4 3 (2 ^ 64 - 1)) false [] (decimal n) ≡ decimal (n / 100) ++ (decimal (n / 10 % 10) ++ decimal (n % 10))
three_digits n small = filled n small ∙ sym (one_by_one n small)
