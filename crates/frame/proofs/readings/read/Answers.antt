use Rattle.std.proofs.Common.{◌≡◌, true, length, drop, ◌∙◌, arith}
use Rattle.std.proofs.lemmas.Slice.{between_to_end}
use Rattle.std.proofs.lemmas.Bool.{le-leb, and_from}
use Rattle.frame.specs.Frames.{content_after, destination, fits, outer_type, shows, source}
use Rattle.frame.proofs.Contents.{content_behind, read_made}
use Rattle.frame.proofs.readings.read.Goals as goal

pub returns-in-len14-up : goal.returns-in-len14-up
returns-in-len14-up c =
    let f = c.args.bytes.now in
    let fit : fits f ≡ true = and_from _ _ (le-leb 60 (length f) c.if-length-lt-SHORTEST.false) (le-leb (length f) 1518 c.if-length-gt-LONGEST.false) in
    let d : c.from.result.bits ≡ destination f = c.from.ensures in
    let s : c.from-in-len14-up.result.bits ≡ source f = c.from-in-len14-up.ensures in
    let t : c.from_be_bytes.result ≡ outer_type f = omega (arith, c.from_be_bytes.ensures) in
    let rest = between_to_end f 14 (length f) (omega arith) in
    let r : shows c.behind_type.result ≡ content_after (outer_type f) (drop 14 f) = c.behind_type.ensures ∙ (λ i. content_after (t i) (rest i)) in
    read_made f _ _ _ fit d s (r ∙ content_behind f)
