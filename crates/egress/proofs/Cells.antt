-- The cells that a store has free beside those that the buffers hold no frame in. Assumes nothing.
use Rattle.std.proofs.Common.{◌≡◌, ℕ, ◌<◌, Bool, true, false, List, length, set, sym, ap, ◌∙◌, ⊎_elim, get_or-set_other, get_or-set_same}
use lib.ListN.{get_or-replicate}
use Rattle.std.proofs.lemmas.Bool.{cases_eq}
use Rattle.buffers.proofs.Soundness.{put_other, put_same}
use Rattle.cells.specs.Stores.{all_free, free_at}
use Rattle.rules.specs.Copies.{put}
use Rattle.egress.specs.Agreements.{Agree}

pub all_free_at : (c : ℕ) → c < 32 → free_at all_free c ≡ true
unfolding all_free
all_free_at c low = get_or-replicate 32 c true false low

pub agree_moved : (marks : List Bool) (f g : ℕ → Bool) → f ≡ g → Agree marks f → Agree marks g
agree_moved marks f g e a c low = a c low ∙ ap (λ h. h c) e

-- a cell that is granted is free no more
pub agree_granted : (ms after : List Bool) (f g : ℕ → Bool) (c : ℕ) → c < length ms → Agree ms f → after ≡ set ms c false → g ≡ put f c false → Agree after g
agree_granted ms after f g c within agree marked freed k low =
    ⊎_elim
    (λ same.
    ap (λ l. free_at l k) marked
    ∙ ap (λ j. free_at (set ms c false) j) same
    ∙ get_or-set_same ms c false false within
    ∙ sym (ap (λ h. h k) freed ∙ put_same f c false k same))
    (λ other.
    ap (λ l. free_at l k) marked
    ∙ get_or-set_other ms c k false false other
    ∙ agree k low
    ∙ sym (ap (λ h. h k) freed ∙ put_other f c false k other))
    (cases_eq k c)
