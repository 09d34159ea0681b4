-- Changes of a port that let no frame in, one after the other. Assumes nothing.
use Rattle.std.proofs.Common.{Option, ◌≡◌, ℕ, sym, ap, ◌∙◌, refl}
use Rattle.buffers.specs.Endings.{freed}
use Rattle.buffers.specs.Holdings.{FramesStay, changed, egress, free}
use Rattle.buffers.specs.declared.buffers.Buffers.{Buffers}
use Rattle.buffers.specs.declared.endings.Ended.{Ended}
use Rattle.rules.specs.Copies.{Egress, put}
use Rattle.egress.proofs.Contents.{ended_contents, freed_on, freed_same, none_freed, same_contents}
use Rattle.egress.proofs.Ports.{changed_twice, put_here, put_own}
use Rattle.egress.specs.Changes.{ChangesPort}

-- the port after a change
pub port_after : {a b : Buffers} {p : ℕ} {f : Egress → Egress} → ChangesPort a b p f → (d : ℕ) → egress d b p ≡ f (egress d a p)
port_after {a} {b} {p} {f} c d = ap (λ ports. ports p) (c.state d) ∙ put_here (egress d a) p (f (egress d a p))

-- a change that does nothing
pub unchanged : (b : Buffers) (p : ℕ) (f : Egress → Egress) → ((d : ℕ) → f (egress d b p) ≡ egress d b p) → ChangesPort b b p f
unchanged b p f same = record {
  state = λ d. put_own (egress d b) p ∙ (λ i. put (egress d b) p (sym (same d) i));
  number = refl;
  cells = none_freed _;
}

-- two changes are one
pub changed_then : {a b c : Buffers} {p : ℕ} {f g : Egress → Egress} → ChangesPort a b p f → ChangesPort b c p g → ChangesPort a c p (λ e. g (f e))
changed_then {a} {b} {c} {p} {f} {g} one two = record {
  state = λ d. two.state d ∙ (λ i. changed (one.state d i) p g) ∙ changed_twice (egress d a) p f g;
  number = two.number ∙ one.number;
  cells = freed_on one.cells two.cells;
}

-- the same change in other words
pub changed_so : {a b : Buffers} {p : ℕ} {f g : Egress → Egress} → ChangesPort a b p f → ((d : ℕ) → f (egress d a p) ≡ g (egress d a p)) → ChangesPort a b p g
changed_so {a} {b} {p} {f} {g} one same = record {
  state = λ d. one.state d ∙ (λ i. put (egress d a) p (same d i));
  number = one.number;
  cells = one.cells;
}

module _ {a b : Buffers} {p : ℕ} (f : Egress → Egress) (state : (d : ℕ) → egress d b ≡ changed (egress d a) p f) (stay : FramesStay a b) where
  -- a change in which no copy ends
  pub changed_kept : free b ≡ free a → ChangesPort a b p f
  changed_kept same = record { state = state; number = stay.number; cells = freed_same (none_freed _) (same_contents a b stay.frames same) }

  -- and one in which a copy may end
  pub changed_ended : (r : Option Ended) → free b ≡ freed r (free a) → ChangesPort a b p f
  changed_ended r same = record { state = state; number = stay.number; cells = ended_contents a b stay.frames r same }
