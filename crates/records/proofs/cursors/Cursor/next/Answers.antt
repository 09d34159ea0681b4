use Rattle.std.proofs.Common.{◌≡◌, refl, sym, ap, ◌∙◌}
use Rattle.std.proofs.lemmas.Result.{err_from_is_err_and}
use Rattle.std.specs.Option.{ok_or, option_map}
use Rattle.frame.specs.declared.refusals.Refusal.TheVariants.{BrokenInput}
use Rattle.records.specs.Format.{asks, asks_up_to}
use Rattle.records.proofs.Faults.{read_on, refuse}
use Rattle.records.proofs.cursors.Cursor.next.Goals as goal

pub returns : goal.returns
returns c =
    let at = sym (ap (option_map asks_up_to) c.in_ok-record.ensures.ok_part) ∙ c.read.ensures in
    let on = read_on c.args.self.now.input.now c.args.self.now.place c.if-self-gt-LONGEST_INPUT.false c.if-self.false (asks c.in_ok-record.record) c.in_ok-record.behind at in
    record { answer = on.0; input = refl; place = on.1 }

pub returns-in_err-record : goal.returns-in_err-record
returns-in_err-record c =
    let none = c.in_err-record.ensures.ok_part in
    let kept = refuse c.args.self.now.input.now c.args.self.now.place c.if-self-gt-LONGEST_INPUT.false c.if-self.false (sym (ap (option_map asks_up_to) none) ∙ c.read.ensures) in
    let passed = err_from_is_err_and c.from_residual.result c.from_residual.ensures.1 in
    let said = c.in_err-record.ensures.value ∙ ap (λ o. ok_or o (BrokenInput c.args.self.now.place)) none in
    let fault : c.in_err-record.field-0.0 ≡ BrokenInput c.args.self.now.place = cc in
    record { answer = rw (passed.1, passed.2, fault) kept.0; input = refl; place = kept.1 }
