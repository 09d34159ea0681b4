-- Two switches with the same settings, over kinds that mean the same, are answered alike. Assumes nothing.
use Rattle.std.proofs.Common.{◌≡◌, ℕ, ◌+◌, ◌<◌, Bool, true, false, cond, eqb, ltb, leb, List, [], ◌∷◌, map, sym, refl, ap, ◌∙◌, ⊎_elim, arith}
use Rattle.std.proofs.lemmas.Bool.{cases_Bool, cond-true, ltb-false, leb-false}
use Rattle.frame.specs.Classes.{from_to}
use Rattle.frame.specs.Frames.{class, destination, inner_type, priority, tagged}
use Rattle.frame.specs.Refusals.{Told, accepted, refused}
use Rattle.forwarding.specs.Ways.{Way, unknown}
use Rattle.rules.specs.Switch.{Behind, State, Ticked, leaves, new_state, numbers, arrive_answer, arrive_port, clear_answer, return_answer, take_answer, tick_answer, tick_checks, tick_port}
use Rattle.rules.specs.Runs.{Call, arrive, tick, take, look, return, clear, arrived, ticked, moment, run, state_after}
use Rattle.rules.specs.Twins.{Addressed, Alike, AllAddressed, TwinsAgree}
use Rattle.rules.proofs.Steps.{judged_passes}

class_small : (f : List ℕ) → class f < 4
class_small f = at (tagged f) (from_to 6 7 (priority f)) (from_to 3 5 (priority f)) (eqb (inner_type f) 0x88F7)
  where
    at : (t u v w : Bool) → cond t (cond u 3 (cond v 1 0)) (cond w 2 0) < 4
    at true true v w = omega arith
    at true false true w = omega arith
    at true false false w = omega arith
    at false u v true = omega arith
    at false u v false = omega arith

-- the slot after a call is one that there is
module _ (b : Behind) (s : State) (small : s.slot < numbers) where
  left_small : {A : Type 0} (t : Told A) (u : State) → u.slot ≡ s.slot → (leaves t s u).slot < numbers
  left_small (accepted x) u e = omega arith
  left_small (refused n v) u e = small

  ticked_small : (t : Told Ticked) → tick_answer b s ≡ t → (u : State) → u.slot ≡ s.slot + 1 → (leaves t s u).slot < numbers
  ticked_small (accepted a) h u e = omega (arith, leb-false numbers (s.slot + 1) (judged_passes (tick_checks b s) _ a h).1.0)
  ticked_small (refused n v) h u e = small

  small_after : (c : Call) → (state_after b s c).slot < numbers
  small_after (arrive p f) = left_small (arrive_answer b s p f) _ refl
  small_after tick = ticked_small (tick_answer b s) refl _ refl
  small_after (take p) = left_small (take_answer b s p) _ refl
  small_after (look p n buffer) = small
  small_after (return p n) = left_small (return_answer s p n) _ refl
  small_after (clear p) = left_small (clear_answer s p) _ refl

-- what stands behind the switch gives these answers, whatever it is asked
abbrev seen : ℕ → Bool → Bool → ℕ → Way → Behind
seen fill open2 open3 floor way = record { fill = λ s. fill; opens = λ s q. cond (eqb q 2) open2 open3; floor = λ c. floor; forward = λ d p. way }

module _ (a b : Behind) (alike : Alike a b) (s : State) (small : s.slot < numbers) where
  moment_alike : (c : Call) → Addressed c → moment a s c ≡ moment b s c
  moment_alike (arrive p f) d =
      ⊎_elim (λ h. refused_at a h ∙ sym (refused_at b h))
      (λ h i. moment (seen (alike.fill s.slot small i) true true (alike.floor (class f) (class_small f) i) (alike.forward (destination f) p d (omega (arith, ltb-false 3 p h)) i)) s (arrive p f))
      (cases_Bool (ltb 3 p))
    where
      refused_at : (b : Behind) → ltb 3 p ≡ true → moment b s (arrive p f) ≡ record { before = s; call = arrive p f; answer = arrived (refused 1 p); after = s }
      refused_at b h =
          ap (λ t. record { before = s; call = arrive p f; answer = arrived t; after = leaves t s (record { slot = s.slot; next = s.next + 1; rate = s.rate; depth = s.depth; port = arrive_port b s p f }) })
          (cond-true (ltb 3 p) _ _ h)
  moment_alike tick d =
      ⊎_elim (λ h. refused_at a h ∙ sym (refused_at b h))
      (λ h i. moment (seen (alike.fill (s.slot + 1) (leb-false numbers (s.slot + 1) h) i) true true 0 unknown) s tick)
      (cases_Bool (leb numbers (s.slot + 1)))
    where
      refused_at : (b : Behind) → leb numbers (s.slot + 1) ≡ true → moment b s tick ≡ record { before = s; call = tick; answer = ticked (refused 3 0); after = s }
      refused_at b h =
          ap (λ t. record { before = s; call = tick; answer = ticked t; after = leaves t s (record { slot = s.slot + 1; next = s.next; rate = s.rate; depth = s.depth; port = tick_port b s }) })
          (cond-true (leb numbers (s.slot + 1)) _ _ h)
  moment_alike (take p) d =
      (λ i. moment (seen (alike.fill s.slot small i) (alike.opens s.slot 2 small (omega arith) i) (alike.opens s.slot 3 small (omega arith) i) 0 unknown) s (take p))
  moment_alike (look p n buffer) d = refl
  moment_alike (return p n) d = refl
  moment_alike (clear p) d = refl

-- whole runs are alike, their states and answers
pub run_alike : (a b : Behind) → Alike a b → (s : State) → s.slot < numbers → (calls : List Call) → AllAddressed calls → run a s calls ≡ run b s calls
run_alike a b alike s small [] d = refl
run_alike a b alike s small (c ∷ cs) d =
    ap (λ m. m ∷ run a m.after cs) (moment_alike a b alike s small c d.0)
    ∙ ap (λ l. moment b s c ∷ l) (run_alike a b alike (state_after b s c) (small_after b s small c) cs d.1)

pub twins_agree : TwinsAgree
twins_agree a b alike slot number rate depth small calls d = ap (map (λ m. m.answer)) (run_alike a b alike (new_state slot number rate depth) small calls d)
