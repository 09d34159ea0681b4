-- What each call does to the copies of a port, read as its answer and the states tell it. Assumes nothing.
use Rattle.std.proofs.Common.{◌≡◌, ℕ, zero, suc, ◌+◌, ◌-◌, ◌<◌, ◌≤◌, Bool, true, false, cond, ◌&&◌, eqb, ltb, ◌⊎◌, List, [], ◌∷◌, ◌++◌, length, Some, None, Option, sym, refl, ap, ◌∙◌, inl, inr, arith}
use Rattle.std.proofs.lemmas.List.Sums.{sum_by-append}
use mathlib.Core.Path.{subst⁻¹}
use Rattle.std.specs.Option.{option_map, option_to_list}
use Rattle.std.specs.List.{AllByRecursion as All}
use Rattle.std.proofs.lemmas.Bool.{eqb-true, eqb-false, eq-eqb, ne_eqb, lt-ltb, cond-false}
use Rattle.rules.specs.Copies.{Copy, Egress, Taking, queue_for, with_queue, with_tokens, with_out, laid, queued_at}
use Rattle.rules.specs.Switch.{Arrived, Ticket}
use Rattle.rules.specs.Runs.{total, count, bit, numbered, sum4, holds}
use Rattle.rules.proofs.Totals.{ended_bit}
use Rattle.rules.proofs.Moves.{Move, none, only, only_total, queued_total, queued_flow, out_flow, stays, lays_one, ends_queue, ends_all, leaves_out, Takes}

-- how often frame n is queued, and how often it is out
abbrev pub queued_in : ℕ → Egress → ℕ
queued_in n e = count (numbered n) (queued_at e)

abbrev pub out_in : ℕ → Egress → ℕ
out_in n e = count (numbered n) (option_to_list e.out)

-- a copy that is laid has what the Arrive was given and answered; a time-sensitive one lies in queue f, any other in queue 2 or 3
pub record New (f j : ℕ) (arr : Option Arrived) (bytes : List ℕ) (c : Copy) : Type 0 where
  pub told : Arrived
  pub answered : arr ≡ Some told
  pub number : told.number ≡ c.number
  pub class : told.class ≡ c.class
  pub content : bytes ≡ c.bytes
  pub place : ((c.class ≡ 3) × (j ≡ f)) ⊎ ((c.class ≡ 3 → ⊥) × ((j ≡ 2) ⊎ (j ≡ 3)))

-- how many copies a call laid and ended at one port
pub record Sizes : Type 0 where
  pub laid : ℕ
  pub sent : ℕ
  pub late : ℕ
  pub over : ℕ
  pub cleared : ℕ

abbrev pub nothing : Sizes
nothing = record { laid = 0; sent = 0; late = 0; over = 0; cleared = 0 }

-- what was laid: by the test, where, and how much; nothing is laid in the queue that is sent
pub record Laying (f : ℕ) (arr : Option Arrived) (bytes : List ℕ) (lays : ℕ → Bool) (laid : ℕ → List Copy) (size : ℕ) : Type 0 where
  pub is : (n : ℕ) → bit (lays n) ≡ sum4 (λ j. count (numbered n) (laid j))
  pub new : (j : ℕ) → All (New f j arr bytes) (laid j)
  pub sending : laid (1 - f) ≡ []
  pub filling : (laid f ≡ []) ⊎ ((c : Copy) × (laid f ≡ c ∷ []))
  pub many : sum4 (λ j. length (laid j)) ≡ size

lays_none : (f : ℕ) (arr : Option Arrived) (bytes : List ℕ) (lays : ℕ → Bool) → ((n : ℕ) → lays n ≡ false) → Laying f arr bytes lays none 0
lays_none f arr bytes lays h = record { is = λ n. ap bit (h n); new = λ j. tt; sending = refl; filling = inl refl; many = refl }

-- what was put out: by the test, and out of which queues; nothing leaves the port with it
pub record Taken (f : ℕ) (takes : ℕ → Bool) (taken : ℕ → List Copy) (put_out left : List Copy) : Type 1 where
  pub is : (n : ℕ) → bit (takes n) ≡ count (numbered n) put_out
  pub from : (P : Copy → Type 0) → All P (taken (1 - f)) → All P (taken 2) → All P (taken 3) → All P put_out
  pub stays : (n : ℕ) → 0 < bit (takes n) → left ≡ []

takes_none : (f : ℕ) (takes : ℕ → Bool) (left : List Copy) → ((n : ℕ) → takes n ≡ false) → Taken f takes none [] left
takes_none f takes left h = record { is = λ n. ap bit (h n); from = λ P a b c. tt; stays = λ n l. absurd (omega (arith, ap bit (h n))) }

-- what was sent: the copy that was out
pub record Sent (sends : ℕ → Bool) (e e' : Egress) (sent left : List Copy) (size : ℕ) : Type 1 where
  pub is : (n : ℕ) → bit (sends n) ≡ count (numbered n) sent
  pub among : (w : Copy → ℕ) → total w sent ≤ total w left
  pub from : (P : Copy → Type 0) → All P (option_to_list e.out) → All P sent
  pub out : (n : ℕ) → 0 < bit (sends n) → e'.out ≡ None
  pub many : length sent ≡ size

sends_none : (sends : ℕ → Bool) (e e' : Egress) (left : List Copy) → ((n : ℕ) → sends n ≡ false) → Sent sends e e' [] left 0
sends_none sends e e' left h = record { is = λ n. ap bit (h n); among = λ w. omega arith; from = λ P a. tt; out = λ n l. absurd (omega (arith, ap bit (h n))); many = refl }

-- frame n was at a port as often as x says, and is neither queued nor out after the call
abbrev gone_from : Bool → (ℕ → ℕ) → Egress → ℕ → ℕ
gone_from is_call x e' n = bit (is_call && (ltb 0 (x n) && eqb (queued_in n e' + out_in n e') 0))

-- what a Tick, a Take and a Clear ended
pub record Ended (is_call : Bool) (x : ℕ → ℕ) (e e' : Egress) (source ended : List Copy) (size : ℕ) : Type 1 where
  pub is : (n : ℕ) → queued_in n e + out_in n e ≤ 1 → gone_from is_call x e' n ≡ count (numbered n) ended
  pub from : (P : Copy → Type 0) → All P source → All P ended
  pub many : length ended ≡ size

-- nothing ends where all that was there is there
ends_none : (is_call : Bool) (x : ℕ → ℕ) (e e' : Egress) (source : List Copy) → ((n : ℕ) → gone_from is_call x e' n ≡ 0) → Ended is_call x e e' source [] 0
ends_none is_call x e e' source h = record { is = λ n l. h n; from = λ P a. tt; many = refl }

-- another call than that ends nothing of the kind
ends_other : (x : ℕ → ℕ) (e e' : Egress) (source : List Copy) → Ended false x e e' source [] 0
ends_other x e e' source = ends_none false x e e' source (λ n. refl)

abbrev pub whole : Egress → List Copy
whole e = queued_at e ++ option_to_list e.out

abbrev pub there : Egress → ℕ → ℕ
there e n = queued_in n e + out_in n e

-- what a call, accepted or refused, did at one port in a slot in which queue f fills, from e to e'; the tests say what its answer shows
pub record Befell (z : Sizes) (f : ℕ) (arr : Option Arrived) (bytes : List ℕ) (lays takes sends : ℕ → Bool) (is_tick is-take is-clear : Bool) (e e' : Egress) : Type 1 where
  pub laid : ℕ → List Copy
  pub ended : ℕ → List Copy
  pub taken : ℕ → List Copy
  pub put_out : List Copy
  pub left : List Copy
  pub sent : List Copy
  pub late : List Copy
  pub over : List Copy
  pub cleared : List Copy
  pub move : Move laid ended taken put_out left e e'
  pub kinds : (w : Copy → ℕ) → sum4 (λ j. total w (ended j)) + total w left ≡ total w sent + total w late + total w over + total w cleared
  pub laying : Laying f arr bytes lays laid z.laid
  pub taking : Taken f takes taken put_out left
  pub sending : Sent sends e e' sent left z.sent
  pub lateness : Ended is_tick (λ n. queued_in n e) e e' (e.queue (1 - f)) late z.late
  pub overdraft : Ended is-take (λ n. queued_in n e) e e' (e.queue 2) over z.over
  pub reserved : All (λ c. c.class ≡ 1) over
  pub clearing : Ended is-clear (there e) e e' (whole e) cleared z.cleared

-- nothing that was there is gone
still_bit : (b : Bool) (x y : ℕ) → x ≤ y → bit (b && (ltb 0 x && eqb y 0)) ≡ 0
still_bit false x y h = refl
still_bit true zero y h = refl
still_bit true (suc x) y h = ap (λ t. bit (t && eqb y 0)) (lt-ltb 0 (suc x) (omega arith)) ∙ ap bit (ne_eqb y 0 (λ e. omega arith))

-- nothing happened at this port
pub idle : (f : ℕ) (arr : Option Arrived) (bytes : List ℕ) (lays takes sends : ℕ → Bool) (is_tick is-take is-clear : Bool) (e : Egress) → ((n : ℕ) → lays n ≡ false) → ((n : ℕ) → takes n ≡ false) → ((n : ℕ) → sends n ≡ false) → Befell nothing f arr bytes lays takes sends is_tick is-take is-clear e e
idle f arr bytes lays takes sends is_tick is-take is-clear e nl nt ns =
    record {
      laid = none;
      ended = none;
      taken = none;
      put_out = [];
      left = [];
      sent = [];
      late = [];
      over = [];
      cleared = [];
      move = stays e;
      kinds = λ w. refl;
      laying = lays_none f arr bytes lays nl;
      taking = takes_none f takes [] nt;
      sending = sends_none sends e e [] ns;
      lateness = ends_none is_tick (λ n. queued_in n e) e e (e.queue (1 - f)) (λ n. still_bit is_tick (queued_in n e) (there e n) (omega arith));
      overdraft = ends_none is-take (λ n. queued_in n e) e e (e.queue 2) (λ n. still_bit is-take (queued_in n e) (there e n) (omega arith));
      reserved = tt;
      clearing = ends_none is-clear (there e) e e (whole e) (λ n. still_bit is-clear (there e n) (there e n) (omega arith));
    }

-- Arrive: a copy in the queue of its class at each port of the set
queue_small : (f k : ℕ) → f < 2 → queue_for f k < 4
queue_small f k h = at (eqb k 3) (eqb k 0)
  where
    at : (a b : Bool) → cond a f (cond b 3 2) < 4
    at true b = omega arith
    at false true = omega arith
    at false false = omega arith

queue_place : (f k : ℕ) → ((k ≡ 3) × (queue_for f k ≡ f)) ⊎ ((k ≡ 3 → ⊥) × ((queue_for f k ≡ 2) ⊎ (queue_for f k ≡ 3)))
queue_place f k = at (eqb k 3) (eqb k 0) refl
  where
    at : (a b : Bool) → eqb k 3 ≡ a → ((k ≡ 3) × (cond a f (cond b 3 2) ≡ f)) ⊎ ((k ≡ 3 → ⊥) × ((cond a f (cond b 3 2) ≡ 2) ⊎ (cond a f (cond b 3 2) ≡ 3)))
    at true b e = inl (eqb-true k 3 e, refl)
    at false true e = inr (eqb-false k 3 e, inr refl)
    at false false e = inr (eqb-false k 3 e, inl refl)

queue_not_sending : (f k : ℕ) → f < 2 → 1 - f ≡ queue_for f k → ⊥
queue_not_sending f k h = at (eqb k 3) (eqb k 0)
  where
    at : (a b : Bool) → 1 - f ≡ cond a f (cond b 3 2) → ⊥
    at true b e = omega arith
    at false true e = omega arith
    at false false e = omega arith

module _ (f : ℕ) (small : f < 2) (a : Arrived) (bytes : List ℕ) (e : Egress) where
  abbrev new_copy : Copy
  new_copy = record { number = a.number; class = a.class; bytes = bytes }

  abbrev new_queue : ℕ
  new_queue = queue_for f a.class

  one_at_most : (t : Bool) → (cond t (new_copy ∷ []) [] ≡ []) ⊎ ((c : Copy) × (cond t (new_copy ∷ []) [] ≡ c ∷ []))
  one_at_most true = inr (new_copy, refl)
  one_at_most false = inl refl

  length_only : (k : ℕ) → k < 4 → sum4 (λ j. length (only k (new_copy ∷ []) j)) ≡ 1
  length_only zero h = refl
  length_only (suc zero) h = refl
  length_only (suc (suc zero)) h = refl
  length_only (suc (suc (suc zero))) h = refl
  length_only (suc (suc (suc (suc k)))) h = absurd (omega arith)

  new_at : (j : ℕ) (t : Bool) → eqb j new_queue ≡ t → All (New f j (Some a) bytes) (cond t (new_copy ∷ []) [])
  new_at j true h =
      let q : j ≡ new_queue = eqb-true j new_queue h in
      let P : ℕ → Type 0 = λ k. ((a.class ≡ 3) × (k ≡ f)) ⊎ ((a.class ≡ 3 → ⊥) × ((k ≡ 2) ⊎ (k ≡ 3))) in
      (record { told = a; answered = refl; number = refl; class = refl; content = refl; place = subst⁻¹ P q (queue_place f a.class) }, tt)
  new_at j false h = tt

  abbrev laid_here : Egress
  laid_here = laid e new_queue new_copy

  pub arrives : (t : Bool) → Befell (record { laid = bit t; sent = 0; late = 0; over = 0; cleared = 0 }) f (Some a) bytes (λ n. eqb a.number n && t) (λ n. false) (λ n. false) false false false e (cond t laid_here e)
  arrives true =
      record {
        laid = only new_queue (new_copy ∷ []);
        ended = none;
        taken = none;
        put_out = [];
        left = [];
        sent = [];
        late = [];
        over = [];
        cleared = [];
        move = lays_one e new_queue new_copy;
        kinds = λ w. refl;
        laying =
            record {
              is = λ n. omega (arith, and_true (eqb a.number n), only_total (λ c. bit (numbered n c)) new_queue (new_copy ∷ []) (queue_small f a.class small));
              new = λ j. new_at j (eqb j new_queue) refl;
              sending = cond-false (eqb (1 - f) new_queue) (new_copy ∷ []) [] (ne_eqb (1 - f) new_queue (queue_not_sending f a.class small));
              filling = one_at_most (eqb f new_queue);
              many = length_only new_queue (queue_small f a.class small);
            };
        taking = takes_none f (λ n. false) [] (λ n. refl);
        sending = sends_none (λ n. false) e laid_here [] (λ n. refl);
        lateness = ends_other (λ n. queued_in n e) e laid_here (e.queue (1 - f));
        overdraft = ends_other (λ n. queued_in n e) e laid_here (e.queue 2);
        reserved = tt;
        clearing = ends_other (there e) e laid_here (whole e);
      }
    where
      and_true : (x : Bool) → bit (x && true) ≡ bit x + 0
      and_true true = refl
      and_true false = refl
  arrives false = idle f (Some a) bytes (λ n. eqb a.number n && false) (λ n. false) (λ n. false) false false false e (λ n. and_false (eqb a.number n)) (λ n. refl) (λ n. refl)
    where
      and_false : (x : Bool) → (x && false) ≡ false
      and_false true = refl
      and_false false = refl

-- Tick: what still waits in the queue that was sent ends late
module _ (f : ℕ) (small : f < 2) (e : Egress) (t : ℕ) where
  abbrev e' : Egress
  e' = with_tokens (with_queue e (1 - f) []) t

  late_counts : (n : ℕ) → there e n ≤ 1 → gone_from true (λ n. queued_in n e) e' n ≡ count (numbered n) (e.queue (1 - f))
  late_counts n h =
      let w : Copy → ℕ = λ c. bit (numbered n c) in
      let o = only_total w (1 - f) (e.queue (1 - f)) (omega arith) in
      let q = queued_flow (ends_queue e (1 - f) t) w in
      let r = out_flow (ends_queue e (1 - f) t) w in
      ended_bit (queued_in n e) (count (numbered n) (e.queue (1 - f))) (there e' n) (omega arith) (omega arith) (λ l. omega arith)

  pub ticks : Befell (record { laid = 0; sent = 0; late = length (e.queue (1 - f)); over = 0; cleared = 0 }) f None [] (λ n. false) (λ n. false) (λ n. false) true false false e e'
  ticks =
      record {
        laid = none;
        ended = only (1 - f) (e.queue (1 - f));
        taken = none;
        put_out = [];
        left = [];
        sent = [];
        late = e.queue (1 - f);
        over = [];
        cleared = [];
        move = ends_queue e (1 - f) t;
        kinds = λ w. omega (arith, only_total w (1 - f) (e.queue (1 - f)) (omega arith));
        laying = lays_none f None [] (λ n. false) (λ n. refl);
        taking = takes_none f (λ n. false) [] (λ n. refl);
        sending = sends_none (λ n. false) e e' [] (λ n. refl);
        lateness = record { is = late_counts; from = λ P a. a; many = refl };
        overdraft = ends_other (λ n. queued_in n e) e e' (e.queue 2);
        reserved = tt;
        clearing = ends_other (there e) e e' (whole e);
      }

-- Take at this port, where no copy is out
abbrev pub ticket_at : ℕ → Copy → Ticket
ticket_at p c = record { port = p; number = c.number; length = length c.bytes }

abbrev pub ticket_for : ℕ → Option Ticket → ℕ → Bool
ticket_for p o n = holds (λ t. eqb t.port p && eqb t.number n) o

module _ (f p : ℕ) (e : Egress) (t : Taking) (took : Takes (1 - f) e t) (free : e.out ≡ None) where
  ticket_is : (n : ℕ) (o : Option Copy) → bit (ticket_for p (option_map (ticket_at p) o) n) ≡ count (numbered n) (option_to_list o)
  ticket_is n None = refl
  ticket_is n (Some c) = ap (λ t. bit (t && eqb c.number n)) (eq-eqb p p refl) ∙ omega arith

  over_counts : (n : ℕ) → there e n ≤ 1 → gone_from true (λ n. queued_in n e) t.left n ≡ count (numbered n) took.over
  over_counts n h =
      let w : Copy → ℕ = λ c. bit (numbered n c) in
      let o = took.ends w in
      let q = queued_flow took.move w in
      let r = out_flow took.move w in
      ended_bit (queued_in n e) (count (numbered n) took.over) (there t.left n) (omega arith) (omega arith) (λ l. omega arith)

  pub takes : Befell (record { laid = 0; sent = 0; late = 0; over = t.overdrawn; cleared = 0 }) f None [] (λ n. false) (ticket_for p (option_map (ticket_at p) t.taken)) (λ n. false) false true false e t.left
  takes =
      record {
        laid = none;
        ended = took.ended;
        taken = took.taken;
        put_out = option_to_list t.taken;
        left = [];
        sent = [];
        late = [];
        over = took.over;
        cleared = [];
        move = took.move;
        kinds = λ w. omega (arith, took.ends w);
        laying = lays_none f None [] (λ n. false) (λ n. refl);
        taking = record { is = λ n. ticket_is n t.taken; from = took.from; stays = λ n h. refl };
        sending = sends_none (λ n. false) e t.left [] (λ n. refl);
        lateness = ends_other (λ n. queued_in n e) e t.left (e.queue (1 - f));
        overdraft = record { is = over_counts; from = took.over_from; many = sym took.many };
        reserved = took.reserved;
        clearing = ends_other (there e) e t.left (whole e);
      }

-- Return at this port, of the copy that is out
pub returns : (f p n : ℕ) (e : Egress) (c : Copy) → e.out ≡ Some c → c.number ≡ n → Befell (record { laid = 0; sent = 1; late = 0; over = 0; cleared = 0 }) f None [] (λ k. false) (λ k. false) (λ k. eqb p p && eqb n k) false false false e (with_out e None)
returns f p n e c h q =
    record {
      laid = none;
      ended = none;
      taken = none;
      put_out = [];
      left = option_to_list e.out;
      sent = option_to_list e.out;
      late = [];
      over = [];
      cleared = [];
      move = leaves_out e;
      kinds = λ w. omega arith;
      laying = lays_none f None [] (λ k. false) (λ k. refl);
      taking = takes_none f (λ k. false) (option_to_list e.out) (λ k. refl);
      sending =
          record {
            is = λ k. ap (λ t. bit (t && eqb n k)) (eq-eqb p p refl) ∙ ap (λ x. bit (eqb x k)) (sym q) ∙ sym (ap (λ o. count (numbered k) (option_to_list o)) h ∙ omega arith);
            among = λ w. omega arith;
            from = λ P a. a;
            out = λ n h. refl;
            many = ap (λ o. length (option_to_list o)) h;
          };
      lateness = ends_other (λ n. queued_in n e) e (with_out e None) (e.queue (1 - f));
      overdraft = ends_other (λ n. queued_in n e) e (with_out e None) (e.queue 2);
      reserved = tt;
      clearing = ends_other (there e) e (with_out e None) (whole e);
    }

-- Clear at this port
module _ (f : ℕ) (e : Egress) (t : ℕ) where
  abbrev cleared_port : Egress
  cleared_port = record { queue = λ k. []; tokens = t; out = None }

  pub clears : Befell (record { laid = 0; sent = 0; late = 0; over = 0; cleared = length (whole e) }) f None [] (λ n. false) (λ n. false) (λ n. false) false false true e cleared_port
  clears =
      record {
        laid = none;
        ended = e.queue;
        taken = none;
        put_out = [];
        left = option_to_list e.out;
        sent = [];
        late = [];
        over = [];
        cleared = whole e;
        move = ends_all e t;
        kinds = λ w. omega (arith, queued_total w e, sum_by-append w (queued_at e) (option_to_list e.out));
        laying = lays_none f None [] (λ n. false) (λ n. refl);
        taking = takes_none f (λ n. false) (option_to_list e.out) (λ n. refl);
        sending = sends_none (λ n. false) e cleared_port (option_to_list e.out) (λ n. refl);
        lateness = ends_other (λ n. queued_in n e) e cleared_port (e.queue (1 - f));
        overdraft = ends_other (λ n. queued_in n e) e cleared_port (e.queue 2);
        reserved = tt;
        clearing =
            record {
              is = λ n h. ended_bit (there e n) (there e n) 0 h (omega arith) (λ l. omega arith) ∙ sym (sum_by-append (λ c. bit (numbered n c)) (queued_at e) (option_to_list e.out));
              from = λ P a. a;
              many = refl;
            };
      }
