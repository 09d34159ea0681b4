-- What a call does to the copies of one port: some are laid at the back of queues, some end or are taken off their front, and one may leave the place of the copy that is out. Assumes nothing.
use Rattle.std.proofs.Common.{◌≡◌, ℕ, zero, suc, ◌+◌, ◌<◌, Bool, true, false, cond, eqb, ltb, List, [], ◌∷◌, ◌++◌, length, Some, None, sym, refl, ap, ◌∙◌, ⊎_elim, append-nil, arith}
use Rattle.std.proofs.lemmas.List.Sums.{sum_by-append}
use Rattle.std.specs.Option.{option_to_list}
use Rattle.std.specs.List.{AllByRecursion as All}
use Rattle.std.proofs.lemmas.Bool.{cases_Bool, eqb-true, eq-eqb, ltb-true, cond-false}
use Rattle.rules.specs.Copies.{Copy, Egress, Taking, cost, put, with_queue, with_tokens, with_out, laid, too_dear, affordable, take_best_effort, best_effort_part, take_paid, paid_part, take_sending, take_at, queued_at}
use Rattle.rules.specs.Runs.{total, sum4}
use Rattle.rules.proofs.Totals.{all_parts}

-- from e to e': by queue what was laid, ended and taken; then what was put out, and what was out and is no more
pub record Move (laid ended taken : ℕ → List Copy) (took left : List Copy) (e e' : Egress) : Type 0 where
  pub queues : (j : ℕ) → e.queue j ++ laid j ≡ ended j ++ (taken j ++ e'.queue j)
  pub outs : option_to_list e.out ++ took ≡ left ++ option_to_list e'.out
  pub same : (w : Copy → ℕ) → sum4 (λ j. total w (taken j)) ≡ total w took

abbrev pub none : ℕ → List Copy
none j = []

pub queued_total : (w : Copy → ℕ) (e : Egress) → total w (queued_at e) ≡ sum4 (λ j. total w (e.queue j))
queued_total w e =
    omega (arith, sum_by-append w (e.queue 0) (e.queue 1 ++ (e.queue 2 ++ e.queue 3)), sum_by-append w (e.queue 1) (e.queue 2 ++ e.queue 3), sum_by-append w (e.queue 2) (e.queue 3))

module _ {laid ended taken : ℕ → List Copy} {took left : List Copy} {e e' : Egress} (mv : Move laid ended taken took left e e') (w : Copy → ℕ) where
  queue_flow : (j : ℕ) → total w (e.queue j) + total w (laid j) ≡ total w (ended j) + (total w (taken j) + total w (e'.queue j))
  queue_flow j =
      omega (arith, ap (total w) (mv.queues j), sum_by-append w (e.queue j) (laid j), sum_by-append w (ended j) (taken j ++ e'.queue j), sum_by-append w (taken j) (e'.queue j))

  -- whatever copies are counted by, none is lost and none comes from nowhere
  pub queued_flow : total w (queued_at e) + sum4 (λ j. total w (laid j)) ≡ sum4 (λ j. total w (ended j)) + total w took + total w (queued_at e')
  queued_flow =
      omega (arith, queued_total w e, queued_total w e', queue_flow 0, queue_flow 1, queue_flow 2, queue_flow 3, mv.same w)

  pub out_flow : total w (option_to_list e.out) + total w took ≡ total w left + total w (option_to_list e'.out)
  out_flow =
      omega (arith, ap (total w) mv.outs, sum_by-append w (option_to_list e.out) took, sum_by-append w left (option_to_list e'.out))

-- nothing happens
pub stays : (e : Egress) → Move none none none [] [] e e
stays e = record { queues = λ j. append-nil (e.queue j); outs = append-nil (option_to_list e.out); same = λ w. refl }

-- something at queue k alone
abbrev pub only : ℕ → List Copy → ℕ → List Copy
only k cs j = cond (eqb j k) cs []

pub only_total : (w : Copy → ℕ) (k : ℕ) (cs : List Copy) → k < 4 → sum4 (λ j. total w (only k cs j)) ≡ total w cs
only_total w zero cs h = omega arith
only_total w (suc zero) cs h = omega arith
only_total w (suc (suc zero)) cs h = omega arith
only_total w (suc (suc (suc zero))) cs h = omega arith
only_total w (suc (suc (suc (suc k)))) cs h = absurd (omega arith)

-- a copy is laid at the back of queue k
pub lays_one : (e : Egress) (k : ℕ) (c : Copy) → Move (only k (c ∷ [])) none none [] [] e (laid e k c)
lays_one e k c =
    record { queues = λ j. at j (eqb j k) refl; outs = append-nil (option_to_list e.out); same = λ w. refl }
  where
    at : (j : ℕ) (t : Bool) → eqb j k ≡ t → e.queue j ++ cond t (c ∷ []) [] ≡ cond t (e.queue k ++ c ∷ []) (e.queue j)
    at j true q = ap (λ i. e.queue i ++ c ∷ []) (eqb-true j k q)
    at j false q = append-nil (e.queue j)

-- every copy of queue k ends
pub ends_queue : (e : Egress) (k t : ℕ) → Move none (only k (e.queue k)) none [] [] e (with_tokens (with_queue e k []) t)
ends_queue e k t =
    record { queues = λ j. at j (eqb j k) refl; outs = append-nil (option_to_list e.out); same = λ w. refl }
  where
    at : (j : ℕ) (t : Bool) → eqb j k ≡ t → e.queue j ++ [] ≡ cond t (e.queue k) [] ++ cond t [] (e.queue j)
    at j true q = ap (λ i. e.queue i ++ []) (eqb-true j k q)
    at j false q = append-nil (e.queue j)

-- every copy ends, queued or out
pub ends_all : (e : Egress) (t : ℕ) → Move none e.queue none [] (option_to_list e.out) e (record { queue = λ k. []; tokens = t; out = None })
ends_all e t = record { queues = λ j. refl; outs = refl; same = λ w. refl }

-- the copy that is out leaves
pub leaves_out : (e : Egress) → Move none none none [] (option_to_list e.out) e (with_out e None)
leaves_out e = record { queues = λ j. append-nil (e.queue j); outs = refl; same = λ w. refl }

-- the front of queue 2 ends
drops : (e : Egress) (over rest : List Copy) → e.queue 2 ≡ over ++ rest → Move none (only 2 over) none [] [] e (with_queue e 2 rest)
drops e over rest h =
    record { queues = λ j. at j (eqb j 2) refl; outs = append-nil (option_to_list e.out); same = λ w. refl }
  where
    at : (j : ℕ) (t : Bool) → eqb j 2 ≡ t → e.queue j ++ [] ≡ cond t over [] ++ cond t rest (e.queue j)
    at j true q = append-nil (e.queue j) ∙ ap e.queue (eqb-true j 2 q) ∙ h
    at j false q = append-nil (e.queue j)

-- the first copy of queue q is put out
module _ (e e' : Egress) (q : ℕ) (c : Copy) (cs : List Copy) (small : q < 4) (first : e.queue q ≡ c ∷ cs) (rest : (j : ℕ) → e'.queue j ≡ put e.queue q cs j) (idle : e.out ≡ None) (out : e'.out ≡ Some c) where
  puts_out_at : (j : ℕ) (t : Bool) → eqb j q ≡ t → e.queue j ++ [] ≡ cond t (c ∷ []) [] ++ cond t cs (e.queue j)
  puts_out_at j true h = append-nil (e.queue j) ∙ ap e.queue (eqb-true j q h) ∙ first
  puts_out_at j false h = append-nil (e.queue j)

  puts_out : Move none none (only q (c ∷ [])) (c ∷ []) [] e e'
  puts_out =
      record {
        queues = λ j. puts_out_at j (eqb j q) refl ∙ ap (λ x. only q (c ∷ []) j ++ x) (sym (rest j));
        outs = ap (λ o. option_to_list o ++ c ∷ []) idle ∙ sym (ap option_to_list out);
        same = λ w. only_total w q (c ∷ []) small;
      }

-- first some end, then one is taken
joins : {ended taken : ℕ → List Copy} {took : List Copy} {e e1 e2 : Egress} → Move none ended none [] [] e e1 → Move none none taken took [] e1 e2 → Move none ended taken took [] e e2
joins {ended} {taken} {took} {e} {e1} {e2} a b =
    record {
      queues = λ j. a.queues j ∙ ap (λ x. ended j ++ x) (sym (append-nil (e1.queue j)) ∙ b.queues j);
      outs = ap (λ x. x ++ took) (sym (append-nil (option_to_list e.out)) ∙ a.outs) ∙ b.outs;
      same = b.same;
    }

-- the tokens split queue 2
dear_split : (t : ℕ) (cs : List Copy) → cs ≡ too_dear t cs ++ affordable t cs
dear_split t [] = refl
dear_split t (c ∷ cs) = at (dear_split t cs) (ltb t (cost c))
  where
    at : cs ≡ too_dear t cs ++ affordable t cs → (b : Bool) → c ∷ cs ≡ cond b (c ∷ too_dear t cs) [] ++ cond b (affordable t cs) (c ∷ cs)
    at h true = ap (λ x. c ∷ x) h
    at h false = refl

-- only reserved copies cost anything
costs : (t : ℕ) (c : Copy) → ltb t (cost c) ≡ true → c.class ≡ 1
costs t c h =
    ⊎_elim (λ e. eqb-true c.class 1 e) (λ e. absurd (omega (arith, ltb-true t (cost c) h, cond-false (eqb c.class 1) (length c.bytes) 0 e))) (cases_Bool (eqb c.class 1))

dear_reserved : (t : ℕ) (cs : List Copy) → All (λ c. c.class ≡ 1) (too_dear t cs)
dear_reserved t [] = tt
dear_reserved t (c ∷ cs) = at (dear_reserved t cs) (ltb t (cost c)) refl
  where
    at : All (λ c. c.class ≡ 1) (too_dear t cs) → (b : Bool) → ltb t (cost c) ≡ b → All (λ c. c.class ≡ 1) (cond b (c ∷ too_dear t cs) [])
    at r true h = (costs t c h, r)
    at r false h = tt

-- what taking does at a port whose sending queue is k and where no copy is out
pub record Takes (k : ℕ) (e : Egress) (t : Taking) : Type 1 where
  pub over : List Copy
  pub ended : ℕ → List Copy
  pub taken : ℕ → List Copy
  pub move : Move none ended taken (option_to_list t.taken) [] e t.left
  pub ends : (w : Copy → ℕ) → sum4 (λ j. total w (ended j)) ≡ total w over
  pub many : t.overdrawn ≡ length over
  pub reserved : All (λ c. c.class ≡ 1) over
  pub over_from : (P : Copy → Type 0) → All P (e.queue 2) → All P over
  pub from : (P : Copy → Type 0) → All P (taken k) → All P (taken 2) → All P (taken 3) → All P (option_to_list t.taken)

-- at its end: the best effort, once the front of queue 2 has ended
module _ (k : ℕ) (e e1 : Egress) (over : List Copy) (ended : ℕ → List Copy) (first : Move none ended none [] [] e e1) (ends : (w : Copy → ℕ) → sum4 (λ j. total w (ended j)) ≡ total w over) (reserved : All (λ c. c.class ≡ 1) over) (front : (P : Copy → Type 0) → All P (e.queue 2) → All P over) (idle : e1.out ≡ None) where
  takes_none : Takes k e (record { taken = None; overdrawn = length over; left = e1 })
  takes_none =
      record { over = over; ended = ended; taken = none; move = first; ends = ends; many = refl; reserved = reserved; over_from = front; from = λ P a b c. tt }

  takes_best : (cs : List Copy) → e1.queue 3 ≡ cs → Takes k e (take_best_effort e1 (length over) cs)
  takes_best [] h = takes_none
  takes_best (c ∷ cs) h =
      record {
        over = over;
        ended = ended;
        taken = only 3 (c ∷ []);
        move = joins first (puts_out e1 (with_out (with_queue e1 3 cs) (Some c)) 3 c cs (omega arith) h (λ j. refl) idle refl);
        ends = ends;
        many = refl;
        reserved = reserved;
        over_from = front;
        from = λ P a b d. d;
      }

  takes_last : (open3 : Bool) → Takes k e (best_effort_part open3 e1 (length over))
  takes_last true = takes_best (e1.queue 3) refl
  takes_last false = takes_none

module _ (k : ℕ) (small : k < 2) (open3 : Bool) (e : Egress) (idle : e.out ≡ None) where
  front_of : (over cs : List Copy) → e.queue 2 ≡ over ++ cs → (P : Copy → Type 0) → All P (e.queue 2) → All P over
  front_of over cs h P a = (all_parts P over cs (rw h at a)).0

  takes_paid : (over cs : List Copy) → e.queue 2 ≡ over ++ cs → All (λ c. c.class ≡ 1) over → Takes k e (take_paid open3 e (length over) cs)
  takes_paid over [] h r = takes_last k e (with_queue e 2 []) over (only 2 over) (drops e over [] h) (λ w. only_total w 2 over (omega arith)) r (front_of over [] h) idle open3
  takes_paid over (c ∷ cs) h r =
      record {
        over = over;
        ended = only 2 over;
        taken = only 2 (c ∷ []);
        move =
            joins (drops e over (c ∷ cs) h)
            (puts_out (with_queue e 2 (c ∷ cs)) (take_paid open3 e (length over) (c ∷ cs)).left 2 c cs (omega arith) refl (λ j. twice j (eqb j 2)) idle refl);
        ends = λ w. only_total w 2 over (omega arith);
        many = refl;
        reserved = r;
        over_from = front_of over (c ∷ cs) h;
        from = λ P a b d. b;
      }
    where
      twice : (j : ℕ) (t : Bool) → cond t cs (e.queue j) ≡ cond t cs (cond t (c ∷ cs) (e.queue j))
      twice j true = refl
      twice j false = refl

  takes_part : (open2 : Bool) → Takes k e (paid_part open2 open3 e)
  takes_part true = takes_paid (too_dear e.tokens (e.queue 2)) (affordable e.tokens (e.queue 2)) (dear_split e.tokens (e.queue 2)) (dear_reserved e.tokens (e.queue 2))
  takes_part false = takes_last k e e [] none (stays e) (λ w. refl) tt (λ P a. tt) idle open3

  takes_sending : (open2 : Bool) (cs : List Copy) → e.queue k ≡ cs → Takes k e (take_sending k open2 open3 e cs)
  takes_sending open2 [] h = takes_part open2
  takes_sending open2 (c ∷ cs) h =
      record {
        over = [];
        ended = none;
        taken = only k (c ∷ []);
        move = puts_out e (with_out (with_queue e k cs) (Some c)) k c cs (omega arith) h (λ j. refl) idle refl;
        ends = λ w. refl;
        many = refl;
        reserved = tt;
        over_from = λ P a. tt;
        from = λ P a b d. only_same P a;
      }
    where
      only_same : (P : Copy → Type 0) → All P (only k (c ∷ []) k) → All P (c ∷ [])
      only_same P a = rw (eq-eqb k k refl) at a

  pub takes_at : (open2 : Bool) → Takes k e (take_at k open2 open3 e)
  takes_at open2 = takes_sending open2 (e.queue k) refl
