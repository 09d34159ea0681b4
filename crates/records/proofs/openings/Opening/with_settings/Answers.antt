use Rattle.std.proofs.Common.{◌*◌, ◌≤◌, length, refl, ap, ◌∙◌, rules}
use Rattle.records.proofs.Settings.{stands}
use Rattle.records.proofs.openings.Opening.with_settings.Goals as goal

pub returns : goal.returns
returns c b slot number behind =
    let long : 10 ≤ length c.args.settings.now = search rules in
    stands b c.args.settings.now behind long c.if-tap-gt1.false (c.if-rows-from.false ∙ ap (λ n. 7 * n) c.from.ensures) _ slot number
    c.from_be_bytes.ensures c.from_be_bytes-2.ensures c.from_be_bytes-3.ensures c.from_be_bytes-4.ensures refl refl
