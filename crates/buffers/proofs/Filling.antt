-- What is known of the frames in the cells, and that a frame written into one keeps it. Assumes nothing.
use Rattle.std.proofs.Common.{◌≡◌, ℕ, ◌+◌, ◌^◌, ◌<◌, ◌≤◌, length, set, sym, refl, ap, ◌∙◌, subst, ⊎_elim, arith}
use Rattle.std.proofs.lemmas.Bool.{cases_eq}
use Rattle.rules.specs.Copies.{cost, put}
use Rattle.buffers.proofs.Places.{set_put}
use Rattle.buffers.proofs.Soundness.{put_each, put_other, put_same}
use Rattle.buffers.specs.Frames.{held}
use Rattle.buffers.specs.Kept.{frame_in, frame_with, kept_at, nothing_kept}
use Rattle.buffers.specs.Memories.{cell_bytes}
use Rattle.buffers.specs.declared.frames.Frames.{Frames}
use Rattle.buffers.specs.declared.frames.Kept.{Kept}
use Rattle.buffers.specs.declared.memories.Memory.{Memory}

-- what the frames keep, by the memory, what is known of each cell, and the next number
abbrev pub Known : Memory → (ℕ → Kept) → ℕ → Type 0
Known m ks next = record {
  short : (c : ℕ) → (ks c).length ≤ 1518;
  long : (c : ℕ) → length (frame_with m c (ks c)).bytes ≡ (ks c).length;
  costed : (c : ℕ) → (ks c).cost ≡ cost (frame_with m c (ks c));
  apart : (c d : ℕ) → (0 < (ks c).length) × (0 < (ks d).length) × ((ks c).number.0 ≡ (ks d).number.0) → c ≡ d;
  young : (c : ℕ) → 0 < (ks c).length → (ks c).number.0 < next;
  last : next ≤ 2 ^ 48;
}

-- nothing in any cell
pub none_known : (m : Memory) (ks : ℕ → Kept) → ((c : ℕ) → ks c ≡ nothing_kept) → (next : ℕ) → next ≤ 2 ^ 48 → Known m ks next
none_known m ks blank next fits =
    let len : (c : ℕ) → (ks c).length ≡ 0 = λ c. ap (λ k. k.length) (blank c) in
    record {
      short = λ c. omega (arith, len c);
      long = λ c. ap (λ k. length (frame_with m c k).bytes) (blank c) ∙ sym (len c);
      costed = λ c. ap (λ k. k.cost) (blank c) ∙ sym (ap (λ k. cost (frame_with m c k)) (blank c));
      apart = λ c d all. absurd (omega (arith, all.0, len c));
      young = λ c some. absurd (omega (arith, some, len c));
      last = fits;
    }

-- a frame written into cell c, of which k is known
module _ (f : Frames) (m : Memory) (c : ℕ) (k : Kept) (others : (d n : ℕ) → (d ≡ c → ⊥) → n ≤ 1536 → cell_bytes m d n ≡ cell_bytes f.memory d n) where
  abbrev now : ℕ → Kept
  now = put (kept_at f.kept) c k

  here : (q : ℕ) → q ≡ c → now q ≡ k
  here = put_same (kept_at f.kept) c k

  there : (q : ℕ) → (q ≡ c → ⊥) → now q ≡ kept_at f.kept q
  there = put_other (kept_at f.kept) c k

  frame_here : (q : ℕ) → q ≡ c → frame_with m q (now q) ≡ frame_with m c k
  frame_here q same = ap (λ d. frame_with m d (now d)) same ∙ ap (frame_with m c) (here c refl)

  frame_there : (q : ℕ) → (q ≡ c → ⊥) → frame_with m q (now q) ≡ held f q
  frame_there q other =
      ap (frame_with m q) (there q other)
      ∙ ap (λ bytes. record { number = (held f q).number; class = (held f q).class; bytes = bytes }) (others q (kept_at f.kept q).length other (omega (arith, f.short q)))

  -- the other cells hold what they held
  pub frames_placed : (within : c < length f.kept) → frame_in m (set f.kept c k) ≡ put (held f) c (frame_with m c k)
  frames_placed within = λ i q. (ap (frame_with m q) (set_put f.kept nothing_kept c k within q) ∙ each q) i
    where
      each : (q : ℕ) → frame_with m q (now q) ≡ put (held f) c (frame_with m c k) q
      each q =
          ⊎_elim
          (λ same. frame_here q same ∙ sym (put_same (held f) c (frame_with m c k) q same))
          (λ other. frame_there q other ∙ sym (put_other (held f) c (frame_with m c k) q other))
          (cases_eq q c)

  module _ (filled : 0 < k.length) (short : k.length ≤ 1518) (numbered : k.number.0 ≡ f.next) (room : f.next < 2 ^ 48) (costs : k.cost ≡ cost (frame_with m c k)) (whole : length (frame_with m c k).bytes ≡ k.length) where
    now_known : Known m now (f.next + 1)
    now_known = record {
      short = put_each (λ x. x.length ≤ 1518) (kept_at f.kept) c k short f.short;
      long = λ q. ⊎_elim
          (λ same. ap (λ x. length x.bytes) (frame_here q same) ∙ whole ∙ sym (ap (λ x. x.length) (here q same)))
          (λ other. ap (λ x. length x.bytes) (frame_there q other) ∙ f.long q ∙ sym (ap (λ x. x.length) (there q other)))
          (cases_eq q c);
      costed = λ q. ⊎_elim
          (λ same. ap (λ x. x.cost) (here q same) ∙ costs ∙ sym (ap cost (frame_here q same)))
          (λ other. ap (λ x. x.cost) (there q other) ∙ f.costed q ∙ sym (ap cost (frame_there q other)))
          (cases_eq q c);
      apart = λ a b all. ⊎_elim
          (λ at. ⊎_elim
          (λ too. at ∙ sym too)
          (λ off. absurd (omega (arith, all.2, ap (λ x. x.number.0) (here a at), ap (λ x. x.number.0) (there b off), numbered, f.young b (omega (arith, all.1, ap (λ x. x.length) (there b off))))))
          (cases_eq b c))
          (λ off. ⊎_elim
          (λ at. absurd (omega (arith, all.2, ap (λ x. x.number.0) (here b at), ap (λ x. x.number.0) (there a off), numbered, f.young a (omega (arith, all.0, ap (λ x. x.length) (there a off))))))
          (λ too. f.apart a b (omega (arith, all.0, ap (λ x. x.length) (there a off)), omega (arith, all.1, ap (λ x. x.length) (there b too)), omega (arith, all.2, ap (λ x. x.number.0) (there a off), ap (λ x. x.number.0) (there b too))))
          (cases_eq b c))
          (cases_eq a c);
      young = λ q some. ⊎_elim
          (λ same. omega (arith, numbered, ap (λ x. x.number.0) (here q same)))
          (λ other. omega (arith, ap (λ x. x.number.0) (there q other), f.young q (omega (arith, some, ap (λ x. x.length) (there q other)))))
          (cases_eq q c);
      last = omega arith;
    }

    pub placed_known : c < length f.kept → Known m (kept_at (set f.kept c k)) (f.next + 1)
    placed_known within =
        subst (λ ks. Known m ks (f.next + 1)) (sym (λ i q. set_put f.kept nothing_kept c k within q i)) now_known
