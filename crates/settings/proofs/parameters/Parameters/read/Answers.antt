use Rattle.std.proofs.Common.{◌≡◌, ℕ, List, get_or, Ok, Result, sym, subst, w8, Fits, rules}
use Rattle.refusal.specs.declared.Refusal.{Refusal}
use Rattle.settings.specs.declared.parameters.Parameters.{Parameters}
use Rattle.settings.specs.Record.{choices_read, verdict, Gives, AcceptsOwn}
use Rattle.settings.proofs.RoundTrips.{own_record, accepts_own}
use Rattle.settings.proofs.parameters.Parameters.read.Goals as goal

-- both clauses follow from the verdict
by_verdict : (bytes : List ℕ) (r : Result Parameters Refusal) → ((i : ℕ) → Fits w8 (get_or bytes i 0)) → Gives (λ p. p.choices) r (verdict bytes) → record { verdict : Gives {P = Parameters} (λ p. p.choices) r (verdict bytes); own : AcceptsOwn {P = Parameters} (λ p. p.choices) bytes r }
by_verdict bytes r fit gives = record { verdict = gives; own = accepts_own (λ p. p.choices) (λ p. p.kept) bytes r fit gives }

pub returns-in_err-choices : goal.returns-in_err-choices
returns-in_err-choices c = by_verdict c.args.record.now c.from_residual.result c.type_inv.record (search rules)

pub returns : goal.returns
returns c =
    let read : choices_read c.args.record.now ≡ Ok c.in_ok-choices.choices = search rules in
    by_verdict c.args.record.now c.new.result c.type_inv.record (subst (λ bytes. Gives (λ p. p.choices) c.new.result (verdict bytes)) (sym (own_record c.args.record.now c.in_ok-choices.choices c.type_inv.record read)) c.new.ensures.verdict)
