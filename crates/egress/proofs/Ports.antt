-- Changes of one port, one after the other. Assumes nothing.
use Rattle.std.proofs.Common.{◌≡◌, ℕ, Bool, true, false, cond, eqb, sym, refl, ap, ◌∙◌, ⊎_elim}
use Rattle.std.proofs.lemmas.Bool.{cases_eq, cond-true, eq-eqb}
use Rattle.buffers.proofs.Soundness.{put_other, put_same}
use Rattle.buffers.specs.Holdings.{changed}
use Rattle.rules.specs.Copies.{Egress, put}

pub put_here : {A : Type 0} (f : ℕ → A) (p : ℕ) (x : A) → put f p x p ≡ x
put_here f p x = cond-true (eqb p p) x (f p) (eq-eqb p p refl)

pub put_own : {A : Type 0} (f : ℕ → A) (p : ℕ) → f ≡ put f p (f p)
put_own f p = λ i q. own q i
  where
    own : (q : ℕ) → f q ≡ put f p (f p) q
    own q =
        ⊎_elim
        (λ same. ap f same ∙ sym (put_same f p (f p) q same))
        (λ other. sym (put_other f p (f p) q other))
        (cases_eq q p)

by_test : {A : Type 0} (b : Bool) (x y z : A) → cond b y (cond b x z) ≡ cond b y z
by_test true x y z = refl
by_test false x y z = refl

pub put_put : {A : Type 0} (f : ℕ → A) (p : ℕ) (x y : A) → put (put f p x) p y ≡ put f p y
put_put f p x y = λ i q. by_test (eqb q p) x y (f q) i

-- two changes of one port are one
pub changed_twice : (ports : ℕ → Egress) (p : ℕ) (g h : Egress → Egress) → changed (changed ports p g) p h ≡ changed ports p (λ e. h (g e))
changed_twice ports p g h =
    (λ i. put (changed ports p g) p (h (put_here ports p (g (ports p)) i))) ∙ put_put ports p (g (ports p)) (h (g (ports p)))
