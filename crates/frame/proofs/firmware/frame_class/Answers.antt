use Rattle.std.proofs.Common.{◌≡◌, sym, ◌∙◌}
use Rattle.std.proofs.lemmas.Bool.{cond-true}
use Rattle.frame.specs.Frames.{fits, class}
use Rattle.frame.proofs.Contents.{read_parts, read_class}
use Rattle.frame.proofs.firmware.frame_class.Goals as goal

pub returns-in-Ok : goal.returns-in-Ok
returns-in-Ok c =
    let f = c.args.bytes.now in
    let e = c.in-Ok.ensures in
    let is : c.number.result ≡ class f = c.number.ensures ∙ c.class.ensures ∙ read_class f _ e in
    is ∙ sym (cond-true (fits f) _ _ (read_parts f _ e).0)
