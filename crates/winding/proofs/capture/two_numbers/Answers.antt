use Rattle.std.proofs.Common.{◌≡◌, None, Err, refl, subst, lit<, rules}
use Rattle.std.proofs.lemmas.Result.{OkIff-at_err}
use Rattle.std.proofs.lemmas.Str.Pattern.{IsSplitOnceResult, split_parts}
use Rattle.winding.specs.declared.capture.LineFault.TheVariants.{NotTwoNumbers}
use Rattle.winding.proofs.Numbers.{needs_blank, at_first_blank}
use Rattle.winding.proofs.capture.two_numbers.Goals as goal

pub returns-in_err-first : goal.returns-in_err-first
returns-in_err-first c =
    let refused : c.from_residual.result ≡ Err NotTwoNumbers = search rules in
    let none : c.split_once.result ≡ None = search rules in
    let parts = split_parts 32 c.args.line.now None (subst (IsSplitOnceResult 32 c.args.line.now) none c.split_once.ensures.cases) (lit< tt) in
    rw refused (refl, λ a b. needs_blank c.args.line.now a b parts)

pub returns-in_err-parse : goal.returns-in_err-parse
returns-in_err-parse c =
    let refused : c.from_residual-in_err-parse.result ≡ Err NotTwoNumbers = search rules in
    rw refused (
      refl,
      λ a b two.
          let parts = at_first_blank c.args.line.now a b c.in_ok-first.first c.in_ok-first.second (search rules) two in
          OkIff-at_err c.parse.result _ _ _ c.parse.ensures.value.0 c.in_err-parse.was (rw parts.0 (two.first_is.digits, two.first_is.small)),
    )

pub returns-in_err-parse-2 : goal.returns-in_err-parse-2
returns-in_err-parse-2 c =
    let refused : c.from_residual-in_err-parse-2.result ≡ Err NotTwoNumbers = search rules in
    rw refused (
      refl,
      λ a b two.
          let parts = at_first_blank c.args.line.now a b c.in_ok-first.first c.in_ok-first.second (search rules) two in
          OkIff-at_err c.parse-2.result _ _ _ c.parse-2.ensures.value.0 c.in_err-parse-2.was (rw parts.1 (two.second_is.digits, two.second_is.small)),
    )
