-- What the cells hold, as copies end and a frame is let in. Assumes nothing.
use Rattle.std.proofs.Common.{◌≡◌, ℕ, ◌<◌, Bool, true, false, cond, Some, None, Option, sym, refl, ap, ◌∙◌, inl, inr, ⊎_elim}
use Rattle.std.proofs.lemmas.Bool.{cases_eq, cond-true}
use Rattle.buffers.proofs.Soundness.{put_other, put_same}
use Rattle.buffers.specs.Endings.{freed}
use Rattle.buffers.specs.Holdings.{contents, frame_at, free}
use Rattle.buffers.specs.declared.buffers.Buffers.{Buffers}
use Rattle.buffers.specs.declared.endings.Ended.{Ended}
use Rattle.buffers.specs.declared.endings.Ended.TheVariants.{Shared, Last}
use Rattle.rules.specs.Cells.{LetIn, OnlyFreed}
use Rattle.rules.specs.Copies.{put}

pub none_freed : (h : ℕ → Option ℕ) → OnlyFreed h h
none_freed h c = inl refl

pub freed_on : {h k l : ℕ → Option ℕ} → OnlyFreed h k → OnlyFreed k l → OnlyFreed h l
freed_on one two c = ⊎_elim (λ same. ⊎_elim (λ before. inl (same ∙ before)) (λ none. inr (same ∙ none)) (one c)) inr (two c)

pub freed_same : {h k l : ℕ → Option ℕ} → OnlyFreed h k → l ≡ k → OnlyFreed h l
freed_same freed same c = ⊎_elim (λ before. inl (ap (λ f. f c) same ∙ before)) (λ none. inr (ap (λ f. f c) same ∙ none)) (freed c)

-- one cell by whether it is free and the number of the frame in it
abbrev held : Bool → ℕ → Option ℕ
held t n = cond t None (Some n)

module _ (b after : Buffers) (frames : frame_at after ≡ frame_at b) where
  pub same_contents : free after ≡ free b → contents after ≡ contents b
  same_contents same = λ i c. held (same i c) (frames i c).number

  -- the last copy of a frame frees its cell, and no other copy does
  pub ended_contents : (r : Option Ended) → free after ≡ freed r (free b) → OnlyFreed (contents b) (contents after)
  ended_contents None same c = inl (ap (λ f. f c) (same_contents same))
  ended_contents (Some Shared) same c = inl (ap (λ f. f c) (same_contents same))
  ended_contents (Some (Last cell)) same c =
      ⊎_elim
      (λ here. inr (cond-true (free after c) None _ (ap (λ f. f c) same ∙ put_same (free b) cell.0 true c here)))
      (λ other. inl (λ i. held ((ap (λ f. f c) same ∙ put_other (free b) cell.0 true c other) i) (frames i c).number))
      (cases_eq c cell.0)

-- a frame put into a free cell
pub let_in_contents : (b after : Buffers) (c n : ℕ) → c < 32 → free b c ≡ true → free after ≡ put (free b) c false → (frame_at after c).number ≡ n → ((d : ℕ) → (d ≡ c → ⊥) → (frame_at after d).number ≡ (frame_at b d).number) → LetIn n (contents b) (contents after)
let_in_contents b after c n low unused now own others = (c, low, cond-true (free b c) None _ unused, λ i d. each d i)
  where
    each : (d : ℕ) → contents after d ≡ put (contents b) c (Some n) d
    each d =
        ⊎_elim
        (λ same.
        (λ i. held ((ap (λ f. f d) now ∙ put_same (free b) c false d same) i) ((ap (λ x. (frame_at after x).number) same ∙ own) i))
        ∙ sym (put_same (contents b) c (Some n) d same))
        (λ other.
        (λ i. held ((ap (λ f. f d) now ∙ put_other (free b) c false d other) i) (others d other i))
        ∙ sym (put_other (contents b) c (Some n) d other))
        (cases_eq d c)
