-- The edges, by evaluation. Assumes nothing.
use Rattle.std.proofs.Common.{◌≡◌, ℕ, ◌/◌, true, List, get_or, refl, ap, ◌∙◌}
use Rattle.std.proofs.lemmas.Bool.{eq-eqb, cond-true}
use Rattle.frame.specs.Classes.{class_of_priority}
use Rattle.frame.specs.Frames.{class, outer_type, tagged}
use Rattle.rules.specs.Edges.{Edges}

-- the class of a tagged frame, by the first byte of its tag
by_tag : (f : List ℕ) (b : ℕ) → outer_type f ≡ 0x8100 → get_or f 14 0 ≡ b → class f ≡ class_of_priority (b / 32)
by_tag f b t e =
    let is : tagged f ≡ true = eq-eqb (outer_type f) 0x8100 t in
    cond-true (tagged f) _ _ is ∙ ap class_of_priority (cond-true (tagged f) _ _ is ∙ ap (λ x. x / 32) e)

pub edges : Edges
edges = record {
  ladder_best_effort = (refl, refl);
  ladder_reserved = (refl, refl);
  ladder_time_sensitive = (refl, refl);
  thresholds_10_4 = (refl, refl);
  thresholds_0_0 = (refl, refl);
  list_fills_one = refl;
  list_refused = refl;
  flow_one = refl;
  flow_last = refl;
  tag_6000 = λ f t a b. by_tag f 0x60 t a;
  tag_5FFF = λ f t a b. by_tag f 0x5F t a;
  refill_once = refl;
  refill_twice = refl;
}
