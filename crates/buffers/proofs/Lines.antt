-- A port's line, from the lists that its queues hold. Assumes nothing.
use Rattle.std.proofs.Common.{◌≡◌, ℕ, zero, suc, eqb, List, [], ◌∷◌, ◌++◌, map, Option, sym, refl, ap, ◌∙◌, arith}
use Rattle.std.proofs.lemmas.List.{map_push}
use Rattle.std.proofs.lemmas.Bool.{cond-false, ne_eqb}
use Rattle.rules.specs.Copies.{put}
use Rattle.buffers.specs.Lines.{Line, by_queue, pushed}
use Rattle.buffers.specs.declared.ports.Priced.{Priced}
use Rattle.buffers.specs.declared.ports.Waiting.{Waiting}

put_2 : {A : Type 0} (a b c d x : List A) (q : ℕ) → by_queue a b x d q ≡ put (by_queue a b c d) 2 x q
put_2 a b c d x zero = refl
put_2 a b c d x (suc zero) = refl
put_2 a b c d x (suc (suc zero)) = refl
put_2 a b c d x (suc (suc (suc zero))) = refl
put_2 a b c d x (suc (suc (suc (suc q)))) =
    sym (cond-false (eqb (suc (suc (suc (suc q)))) 2) x [] (ne_eqb _ 2 (λ e. omega arith)))

module _ (a b d : List Waiting) (t : ℕ) (o : Option Waiting) where
  abbrev over : List Priced → Line
  over c = record { queue = by_queue a b (map (λ e. e.entry) c) d; prices = map (λ e. e.cost) c; tokens = t; out = o }

  -- one more in the queue that is paid for
  pub priced_push : (c c' : List Priced) (e : Priced) (k : ℕ) → k ≡ 2 → c' ≡ c ++ e ∷ [] → over c' ≡ pushed (over c) k e.entry e.cost
  priced_push c c' e k is more =
      ap over more
      ∙ (λ i. record {
        queue = λ q. put_2 a b (map (λ x. x.entry) c) d (map_push (λ x. x.entry) c e i) q i;
        prices = map_push (λ x. x.cost) c e i;
        tokens = t;
        out = o;
      })
      ∙ ap (λ k. pushed (over c) k e.entry e.cost) (sym is)
