-- What a write into a part of the frame memory leaves. Assumes nothing.
use Rattle.std.proofs.Common.{◌≡◌, ℕ, ◌+◌, ◌*◌, ◌<◌, ◌≤◌, List, length, take, drop, sym, ap, ◌∙◌, ⊎_elim, arith}
use borrow.Rule.Slice.PartMut.{put_mid}
use Rattle.std.proofs.lemmas.List.{drop-take}
use Rattle.std.proofs.lemmas.Slice.{drop-put_mid, take-put_mid_below}
use Rattle.std.proofs.lemmas.Bool.{cases_lt}

-- every cell but the one written holds what it held
pub other_part : (xs ys : List ℕ) (cell k : ℕ) → cell * 1536 ≤ length xs → length ys ≡ k → k ≤ 1536 → (c n : ℕ) → (c ≡ cell → ⊥) → n ≤ 1536 → take n (drop (c * 1536) (put_mid (cell * 1536) k xs ys)) ≡ take n (drop (c * 1536) xs)
other_part xs ys cell k inside long few c n other short =
    ⊎_elim
    (λ before.
    sym (drop-take (c * 1536) n (put_mid (cell * 1536) k xs ys))
    ∙ ap (drop (c * 1536)) (take-put_mid_below (cell * 1536) k xs ys (c * 1536 + n) (omega arith) inside)
    ∙ drop-take (c * 1536) n xs)
    (λ behind.
    let past : cell < c = omega (arith, other) in
    ap (take n) (drop-put_mid (cell * 1536) k xs ys (c * 1536) (omega arith) inside long))
    (cases_lt c cell)
