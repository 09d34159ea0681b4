-- Each call of the definition as what it does to every port, to the slot and to the next number. Assumes nothing.
use Rattle.std.proofs.Common.{◌≡◌, ℕ, zero, suc, ◌+◌, ◌-◌, ◌<◌, Bool, true, false, cond, ◌&&◌, eqb, ltb, ◌⊎◌, List, [], ◌∷◌, ◌++◌, length, is_some, Some, None, Option, sym, refl, ap, ◌∙◌, subst, inl, inr, arith, length-append}
use Rattle.std.specs.Option.{option_map}
use Rattle.std.specs.List.{AllByRecursion as All}
use Rattle.std.proofs.lemmas.Bool.{eqb-true, eqb-false, eq-eqb, ne_eqb, leb-false, ltb-true, ltb-false, cond-true}
use Rattle.frame.specs.Frames.{class}
use Rattle.frame.specs.Numbers.{in_set}
use Rattle.frame.specs.Refusals.{Told, accepted, refused}
use Rattle.rules.specs.Copies.{Copy, Egress, put, with_queue, with_tokens, with_out, refilled, copies_at}
use Rattle.rules.specs.Switch.{Behind, State, Check, judged, leaves, numbers, over_ports, way_of, set_of, Arrived, Ticked, Took, Returned, with_ports, arrive_checks, arrive_answer, arrive_port, tick_checks, tick_answer, busy, take_checks, port_taking, take_answer, if_numbered, out_as, not_out, look_answer, look_buffer, return_answer, no_such_port, clear_answer}
use Rattle.rules.specs.Runs.{Call, arrive, tick, take, look, return, clear, Answer, arrived, ticked, took, looked, returned, cleared, Moment, moment, arrived_in, ticked_in, took_in, ticket_in, returned_in, cleared_in, bit, sum4, holds, amount, lays, takes, sends, slot_told, bytes_in}
use Rattle.rules.specs.Laws.{Lawful}
use Rattle.rules.proofs.Moves.{takes_at}
use Rattle.rules.proofs.Calls as call
use Rattle.rules.proofs.Calls.{Sizes, nothing, Befell, idle, ticket_at, ticket_for}

-- the first check that fails decides
pub judged_passes : {A : Type 0} (cs : List Check) (x y : A) → judged cs x ≡ accepted y → (x ≡ y) × All (λ c. c.fails ≡ false) cs
judged_passes [] x y e = (cc, tt)
judged_passes {A} (c ∷ cs) x y e = at (judged_passes cs x y) c.fails refl e
  where
    at : (judged cs x ≡ accepted y → (x ≡ y) × All (λ c. c.fails ≡ false) cs) → (t : Bool) → c.fails ≡ t → cond t (refused c.number c.value) (judged cs x) ≡ accepted y → (x ≡ y) × All (λ c. c.fails ≡ false) (c ∷ cs)
    at f true q h = cc
    at f false q h = let r = f h in (r.0, (q, r.1))

pub record Stepped (b : Behind) (m : Moment) : Type 1 where
  pub sizes : ℕ → Sizes
  pub befell : (p : ℕ) → Befell (sizes p) (b.fill m.before.slot) (arrived_in m.answer) (bytes_in m.call) (λ n. lays n p m) (λ n. takes n p m) (λ n. sends n p m) (is_some (ticked_in m.answer)) (is_some (took_in m.answer)) (is_some (cleared_in m.answer)) (m.before.port p) (m.after.port p)
  pub slot_is : m.after.slot ≡ slot_told m.before.slot (ticked_in m.answer)
  pub tick_is : m.after.slot ≡ m.before.slot + bit (is_some (ticked_in m.answer))
  pub small : m.after.slot < numbers
  pub next_is : m.after.next ≡ m.before.next + bit (is_some (arrived_in m.answer))
  pub number_is : (a : Arrived) → arrived_in m.answer ≡ Some a → a.number ≡ m.before.next
  -- either the slot stays, or the next one begins, in which the queue fills that was sent, and it is empty
  pub turned : (m.after.slot ≡ m.before.slot) ⊎ ((m.after.slot ≡ m.before.slot + 1) × (b.fill m.after.slot ≡ 1 - b.fill m.before.slot) × ((p : ℕ) → (m.after.port p).queue (1 - b.fill m.before.slot) ≡ []))
  -- the answered counts
  pub laid_told : amount (λ a. sum4 (λ p. bit (in_set a.set p))) (arrived_in m.answer) ≡ sum4 (λ p. (sizes p).laid)
  pub sent_told : bit (is_some (returned_in m.answer)) ≡ sum4 (λ p. (sizes p).sent)
  pub late_told : amount (λ t. t.late) (ticked_in m.answer) ≡ sum4 (λ p. (sizes p).late)
  pub over_told : amount (λ t. t.overdrawn) (took_in m.answer) ≡ sum4 (λ p. (sizes p).over)
  pub cleared_told : amount (λ x. x) (cleared_in m.answer) ≡ sum4 (λ p. (sizes p).cleared)

-- a refused call, and a Look, leave all as it was
module _ (b : Behind) (s : State) (small : s.slot < numbers) where
  quiet : (c : Call) (a : Answer) → arrived_in a ≡ None → ticked_in a ≡ None → took_in a ≡ None → returned_in a ≡ None → cleared_in a ≡ None → Stepped b (record { before = s; call = c; answer = a; after = s })
  quiet c a ea et ek er ec =
      record {
        sizes = λ p. nothing;
        befell = λ p. idle (b.fill s.slot) (arrived_in a) (bytes_in c) (λ n. lays n p m) (λ n. takes n p m) (λ n. sends n p m) (is_some (ticked_in a)) (is_some (took_in a)) (is_some (cleared_in a)) (s.port p) (λ n. ap (holds (λ a. eqb a.number n && in_set a.set p)) ea) (λ n. ap (λ o. ticket_for p (ticket_in o) n) ek) (λ n. ap (holds (λ r. eqb r.port p && eqb r.number n)) er);
        slot_is = ap (slot_told s.slot) (sym et);
        tick_is = omega (arith, ap (λ o. bit (is_some o)) et);
        small = small;
        next_is = omega (arith, ap (λ o. bit (is_some o)) ea);
        number_is = λ a e. cc;
        turned = inl refl;
        laid_told = ap (amount (λ a. sum4 (λ p. bit (in_set a.set p)))) ea;
        sent_told = ap (λ o. bit (is_some o)) er;
        late_told = ap (amount (λ t. t.late)) et;
        over_told = ap (amount (λ t. t.overdrawn)) ek;
        cleared_told = ap (amount (λ x. x)) ec;
      }
    where
      m : Moment
      m = record { before = s; call = c; answer = a; after = s }

-- an amount at port q alone
abbrev at_only : ℕ → ℕ → ℕ → ℕ
at_only q x p = cond (eqb p q) x 0

at_only_sum : (q x : ℕ) → q < 4 → x ≡ sum4 (at_only q x)
at_only_sum zero x h = omega arith
at_only_sum (suc zero) x h = omega arith
at_only_sum (suc (suc zero)) x h = omega arith
at_only_sum (suc (suc (suc zero))) x h = omega arith
at_only_sum (suc (suc (suc (suc q)))) x h = absurd (omega arith)

module _ (b : Behind) (lawful : Lawful b) (s : State) (small : s.slot < numbers) where
  abbrev fills : ℕ
  fills = b.fill s.slot

  arrive_accepted : (p : ℕ) (f : List ℕ) → Stepped b (record { before = s; call = arrive p f; answer = arrived (accepted (record { number = s.next; class = class f; set = set_of (way_of b s p f) })); after = record { slot = s.slot; next = s.next + 1; rate = s.rate; depth = s.depth; port = arrive_port b s p f } })
  arrive_accepted p f =
      record {
        sizes = λ q. record { laid = bit (in_set set q); sent = 0; late = 0; over = 0; cleared = 0 };
        befell = λ q. call.arrives fills (lawful.pair s.slot small) (record { number = s.next; class = class f; set = set }) f (s.port q) (in_set set q);
        slot_is = refl;
        tick_is = omega arith;
        small = small;
        next_is = refl;
        number_is = λ a e. let q : a ≡ record { number = s.next; class = class f; set = set } = cc in ap (λ a. a.number) q;
        turned = inl refl;
        laid_told = refl;
        sent_told = refl;
        late_told = refl;
        over_told = refl;
        cleared_told = refl;
      }
    where
      set : ℕ
      set = set_of (way_of b s p f)

  arrive_step : (p : ℕ) (f : List ℕ) (t : Told Arrived) → arrive_answer b s p f ≡ t → Stepped b (record { before = s; call = arrive p f; answer = arrived t; after = leaves t s (record { slot = s.slot; next = s.next + 1; rate = s.rate; depth = s.depth; port = arrive_port b s p f }) })
  arrive_step p f (accepted a) e =
      let r = judged_passes (arrive_checks b s p f) (record { number = s.next; class = class f; set = set_of (way_of b s p f) }) a e in
      subst (λ (a : Arrived). Stepped b (record { before = s; call = arrive p f; answer = arrived (accepted a); after = record { slot = s.slot; next = s.next + 1; rate = s.rate; depth = s.depth; port = arrive_port b s p f } })) r.0 (arrive_accepted p f)
  arrive_step p f (refused n v) e = quiet b s small (arrive p f) (arrived (refused n v)) refl refl refl refl refl

  -- in terms of the queue that fills next
  abbrev tick_at : ℕ → Moment
  tick_at k = record { before = s; call = tick; answer = ticked (accepted (record { slot = s.slot + 1; late = length (over_ports (λ p. (s.port p).queue k)) })); after = record { slot = s.slot + 1; next = s.next; rate = s.rate; depth = s.depth; port = λ p. with_tokens (with_queue (s.port p) k []) (refilled s.rate s.depth (s.port p).tokens) } }

  tick_accepted : s.slot + 1 < numbers → Stepped b (tick_at (1 - fills))
  tick_accepted h =
      record {
        sizes = λ q. record { laid = 0; sent = 0; late = length (queue q); over = 0; cleared = 0 };
        befell = λ q. call.ticks fills (lawful.pair s.slot small) (s.port q) (refilled s.rate s.depth (s.port q).tokens);
        slot_is = refl;
        tick_is = refl;
        small = h;
        next_is = omega arith;
        number_is = λ a e. cc;
        turned = inr (refl, lawful.turns s.slot h, λ p. cond-true (eqb (1 - fills) (1 - fills)) [] ((s.port p).queue (1 - fills)) (eq-eqb (1 - fills) (1 - fills) refl));
        laid_told = refl;
        sent_told = refl;
        late_told = omega (arith, length-append (queue 0) (queue 1 ++ (queue 2 ++ queue 3)), length-append (queue 1) (queue 2 ++ queue 3), length-append (queue 2) (queue 3));
        over_told = refl;
        cleared_told = refl;
      }
    where
      queue : ℕ → List Copy
      queue p = (s.port p).queue (1 - fills)

  tick_step : (t : Told Ticked) → tick_answer b s ≡ t → Stepped b (record { before = s; call = tick; answer = ticked t; after = leaves t s (tick_at (b.fill (s.slot + 1))).after })
  tick_step (accepted a) e =
      let r = judged_passes (tick_checks b s) (record { slot = s.slot + 1; late = length (over_ports (λ p. (s.port p).queue (b.fill (s.slot + 1)))) }) a e in
      let h : s.slot + 1 < numbers = leb-false numbers (s.slot + 1) r.1.0 in
      subst (λ (a : Ticked). Stepped b (record { before = s; call = tick; answer = ticked (accepted a); after = (tick_at (b.fill (s.slot + 1))).after })) r.0
      (subst (λ (k : ℕ). Stepped b (tick_at k)) (sym (lawful.turns s.slot h)) (tick_accepted h))
  tick_step (refused n v) e = quiet b s small tick (ticked (refused n v)) refl refl refl refl refl

  port_small : (p : ℕ) → ltb 3 p ≡ false → p < 4
  port_small p h = omega (arith, ltb-false 3 p h)

  not_busy : (o : Option Copy) → (busy o).fails ≡ false → o ≡ None
  not_busy None h = refl
  not_busy (Some c) h = cc

  no_ticket : (p q n : ℕ) (o : Option Copy) → eqb q p ≡ false → ticket_for q (option_map (ticket_at p) o) n ≡ false
  no_ticket p q n None h = refl
  no_ticket p q n (Some c) h = ap (λ t. t && eqb c.number n) (ne_eqb p q (λ e. eqb-false q p h (sym e)))

  abbrev took_as : ℕ → Took
  took_as p = record { ticket = option_map (ticket_at p) (port_taking b s p).taken; overdrawn = (port_taking b s p).overdrawn }

  module _ (p : ℕ) (free : (s.port p).out ≡ None) where
    take_befell : (q : ℕ) (t : Bool) → eqb q p ≡ t → Befell (record { laid = 0; sent = 0; late = 0; over = cond t (port_taking b s p).overdrawn 0; cleared = 0 }) fills None [] (λ n. false) (ticket_for q (took_as p).ticket) (λ n. false) false true false (s.port q) (cond t (port_taking b s p).left (s.port q))
    take_befell q true h =
        subst (λ (q : ℕ). Befell (record { laid = 0; sent = 0; late = 0; over = (port_taking b s p).overdrawn; cleared = 0 }) fills None [] (λ n. false) (ticket_for q (took_as p).ticket) (λ n. false) false true false (s.port q) (port_taking b s p).left) (sym (eqb-true q p h))
        (call.takes fills p (s.port p) (port_taking b s p) (takes_at (1 - fills) (omega (arith, lawful.pair s.slot small)) (b.opens s.slot 3) (s.port p) free (b.opens s.slot 2)) free)
    take_befell q false h =
        idle fills None [] (λ n. false) (ticket_for q (took_as p).ticket) (λ n. false) false true false (s.port q) (λ n. refl) (λ n. no_ticket p q n (port_taking b s p).taken h) (λ n. refl)

    take_accepted : p < 4 → Stepped b (record { before = s; call = take p; answer = took (accepted (took_as p)); after = with_ports s (put s.port p (port_taking b s p).left) })
    take_accepted l =
        record {
          sizes = λ q. record { laid = 0; sent = 0; late = 0; over = at_only p (port_taking b s p).overdrawn q; cleared = 0 };
          befell = λ q. take_befell q (eqb q p) refl;
          slot_is = refl;
          tick_is = omega arith;
          small = small;
          next_is = omega arith;
          number_is = λ a e. cc;
          turned = inl refl;
          laid_told = refl;
          sent_told = refl;
          late_told = refl;
          over_told = at_only_sum p (port_taking b s p).overdrawn l;
          cleared_told = refl;
        }

  take_step : (p : ℕ) (t : Told Took) → take_answer b s p ≡ t → Stepped b (record { before = s; call = take p; answer = took t; after = leaves t s (with_ports s (put s.port p (port_taking b s p).left)) })
  take_step p (accepted a) e =
      let r = judged_passes (take_checks b s p) (took_as p) a e in
      subst (λ (a : Took). Stepped b (record { before = s; call = take p; answer = took (accepted a); after = with_ports s (put s.port p (port_taking b s p).left) })) r.0 (take_accepted p (not_busy (s.port p).out r.1.1.0) (port_small p r.1.0))
  take_step p (refused n v) e = quiet b s small (take p) (took (refused n v)) refl refl refl refl refl

  -- a ticket that is accepted is that of the copy out there
  numbered_out : (n : ℕ) (o : Option Copy) (c : Copy) → if_numbered n o ≡ Some c → (o ≡ Some c) × (c.number ≡ n)
  numbered_out n None c e = cc
  numbered_out n (Some d) c e = at (eqb d.number n) refl e
    where
      at : (t : Bool) → eqb d.number n ≡ t → cond t (Some d) None ≡ Some c → (Some d ≡ Some c) × (c.number ≡ n)
      at true h q = let i : d ≡ c = cc in (q, sym (ap (λ x. x.number) i) ∙ eqb-true d.number n h)
      at false h q = cc

  pub is_out : (p n : ℕ) (o : Option Copy) → out_as s p n ≡ o → (not_out o p).fails ≡ false → (c : Copy) × (out_as s p n ≡ Some c) × (p < 4) × ((s.port p).out ≡ Some c) × (c.number ≡ n)
  is_out p n None e h = cc
  is_out p n (Some c) e h = at (ltb p 4) refl e
    where
      at : (t : Bool) → ltb p 4 ≡ t → cond t (if_numbered n (s.port p).out) None ≡ Some c → (c : Copy) × (out_as s p n ≡ Some c) × (p < 4) × ((s.port p).out ≡ Some c) × (c.number ≡ n)
      at true h q = let r = numbered_out n (s.port p).out c q in (c, e, ltb-true p 4 h, r.0, r.1)
      at false h q = cc

  module _ (p n : ℕ) (c : Copy) (out : (s.port p).out ≡ Some c) (number : c.number ≡ n) where
    return_befell : (q : ℕ) (t : Bool) → eqb q p ≡ t → Befell (record { laid = 0; sent = cond t 1 0; late = 0; over = 0; cleared = 0 }) fills None [] (λ k. false) (λ k. false) (λ k. eqb p q && eqb n k) false false false (s.port q) (cond t (with_out (s.port p) None) (s.port q))
    return_befell q true h =
        subst (λ (q : ℕ). Befell (record { laid = 0; sent = 1; late = 0; over = 0; cleared = 0 }) fills None [] (λ k. false) (λ k. false) (λ k. eqb p q && eqb n k) false false false (s.port q) (with_out (s.port p) None)) (sym (eqb-true q p h))
        (call.returns fills p n (s.port p) c out number)
    return_befell q false h =
        idle fills None [] (λ k. false) (λ k. false) (λ k. eqb p q && eqb n k) false false false (s.port q) (λ k. refl) (λ k. refl) (λ k. ap (λ t. t && eqb n k) (ne_eqb p q (λ e. eqb-false q p h (sym e))))

    return_accepted : p < 4 → Stepped b (record { before = s; call = return p n; answer = returned (accepted (record { port = p; number = n })); after = with_ports s (put s.port p (with_out (s.port p) None)) })
    return_accepted l =
        record {
          sizes = λ q. record { laid = 0; sent = at_only p 1 q; late = 0; over = 0; cleared = 0 };
          befell = λ q. return_befell q (eqb q p) refl;
          slot_is = refl;
          tick_is = omega arith;
          small = small;
          next_is = omega arith;
          number_is = λ a e. cc;
          turned = inl refl;
          laid_told = refl;
          sent_told = at_only_sum p 1 l;
          late_told = refl;
          over_told = refl;
          cleared_told = refl;
        }

  return_step : (p n : ℕ) (t : Told Returned) → return_answer s p n ≡ t → Stepped b (record { before = s; call = return p n; answer = returned t; after = leaves t s (with_ports s (put s.port p (with_out (s.port p) None))) })
  return_step p n (accepted a) e =
      let r = judged_passes (not_out (out_as s p n) p ∷ []) (record { port = p; number = n }) a e in
      let o = is_out p n (out_as s p n) refl r.1.0 in
      subst (λ (a : Returned). Stepped b (record { before = s; call = return p n; answer = returned (accepted a); after = with_ports s (put s.port p (with_out (s.port p) None)) })) r.0 (return_accepted p n o.0 o.3 o.4 o.2)
  return_step p n (refused k v) e = quiet b s small (return p n) (returned (refused k v)) refl refl refl refl refl

  abbrev emptied : ℕ → Egress
  emptied p = record { queue = λ k. []; tokens = (s.port p).tokens; out = None }

  clear_befell : (p q : ℕ) (t : Bool) → eqb q p ≡ t → Befell (record { laid = 0; sent = 0; late = 0; over = 0; cleared = cond t (length (copies_at (s.port p))) 0 }) fills None [] (λ k. false) (λ k. false) (λ k. false) false false true (s.port q) (cond t (emptied p) (s.port q))
  clear_befell p q true h =
      subst (λ (q : ℕ). Befell (record { laid = 0; sent = 0; late = 0; over = 0; cleared = length (copies_at (s.port p)) }) fills None [] (λ k. false) (λ k. false) (λ k. false) false false true (s.port q) (emptied p)) (sym (eqb-true q p h))
      (call.clears fills (s.port p) (s.port p).tokens)
  clear_befell p q false h =
      idle fills None [] (λ k. false) (λ k. false) (λ k. false) false false true (s.port q) (λ k. refl) (λ k. refl) (λ k. refl)

  clear_accepted : (p : ℕ) → p < 4 → Stepped b (record { before = s; call = clear p; answer = cleared (accepted (length (copies_at (s.port p)))); after = with_ports s (put s.port p (emptied p)) })
  clear_accepted p l =
      record {
        sizes = λ q. record { laid = 0; sent = 0; late = 0; over = 0; cleared = at_only p (length (copies_at (s.port p))) q };
        befell = λ q. clear_befell p q (eqb q p) refl;
        slot_is = refl;
        tick_is = omega arith;
        small = small;
        next_is = omega arith;
        number_is = λ a e. cc;
        turned = inl refl;
        laid_told = refl;
        sent_told = refl;
        late_told = refl;
        over_told = refl;
        cleared_told = at_only_sum p (length (copies_at (s.port p))) l;
      }

  clear_step : (p : ℕ) (t : Told ℕ) → clear_answer s p ≡ t → Stepped b (record { before = s; call = clear p; answer = cleared t; after = leaves t s (with_ports s (put s.port p (emptied p))) })
  clear_step p (accepted a) e =
      let r = judged_passes (no_such_port p ∷ []) (length (copies_at (s.port p))) a e in
      subst (λ (a : ℕ). Stepped b (record { before = s; call = clear p; answer = cleared (accepted a); after = with_ports s (put s.port p (emptied p)) })) r.0 (clear_accepted p (port_small p r.1.0))
  clear_step p (refused k v) e = quiet b s small (clear p) (cleared (refused k v)) refl refl refl refl refl

  pub step : (c : Call) → Stepped b (moment b s c)
  step (arrive p f) = arrive_step p f (arrive_answer b s p f) refl
  step tick = tick_step (tick_answer b s) refl
  step (take p) = take_step p (take_answer b s p) refl
  step (look p n buffer) = quiet b s small (look p n buffer) (looked (look_answer s p n buffer) (look_buffer s p n buffer)) refl refl refl refl refl
  step (return p n) = return_step p n (return_answer s p n) refl
  step (clear p) = clear_step p (clear_answer s p) refl
