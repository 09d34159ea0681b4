use Rattle.std.proofs.Common.{◌≡◌, suc, ◌^◌, ◌<◌, false, set, w32, subst, sym, refl, ap, ◌∙◌, arith, pow_mono, pow-suc}
use Rattle.std.proofs.lemmas.Nat.Bits.{bit_at_clear_same, bit_at_clear_other}
use Rattle.cells.specs.Masks.{digits}
use Rattle.std.specs.Bool.{◌==◌}
use Rattle.cells.specs.Stores.{free_at, free_count}
use Rattle.cells.specs.Digits.{digit_above, digit_top, digits_but_one, digits_none}
use Rattle.cells.proofs.Granting.{named}
use Rattle.cells.proofs.masks.MaskStore.grant.Goals as goal

pub returns-in_default : goal.returns-in_default
returns-in_default c =
    record { answer = (ap (λ n. free_count (digits 32 n)) c.in_default.ensures.none ∙ digits_none 32, refl, refl, refl); order = tt }

pub returns : goal.returns
returns c =
    let n = c.args.self.now.bits in
    let j = c.in-Some.top in
    let top = c.in-Some.ensures in
    let high : n < 2 ^ suc j = omega (arith, pow-suc 2 j, top.next_power_gt) in
    let one = digit_top 32 n j top.bound top.power_le high in
    let is : c.unwrap.result.number ≡ j = named j c.new.result c.unwrap.result top.bound c.new.ensures c.unwrap.ensures in
    let out = digits_but_one 32 n _ j false top.bound (ap (λ b. b == 1) (bit_at_clear_same w32 n j top.bound)) (bit_at_clear_other w32 n j top.bound) in
    record {
      answer = (ap (free_at (digits 32 n)) is ∙ one, out ∙ ap (λ k. set (digits 32 n) k false) (sym is));
      order = λ k above. digit_above 32 n k (omega (arith, high, is, pow_mono (subst (λ m. m < k) is above)));
    }
