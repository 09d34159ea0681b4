-- The cells over a run: its events so far, one more at the end, and what they keep. Assumes nothing.
use Rattle.std.proofs.Common.{◌≡◌, ℕ, ◌+◌, ◌<◌, Bool, true, false, not, eqb, ◌⊎◌, List, [], ◌∷◌, ◌++◌, map, set, is_some, Some, None, Option, sym, refl, ap, ◌∙◌, subst, inl, inr, ⊎_elim, arith}
use Rattle.std.proofs.lemmas.List.{append_assoc, ext_get_or, get_or-set_other, get_or-set_same, length-set, map-append, map_push}
use Rattle.std.proofs.lemmas.Map.{update_here}
use Rattle.std.proofs.lemmas.Bool.{both_ways, cases_eq, cond-false, ne_eqb}
use Rattle.cells.specs.Stores.{all_free, cell_count, free_at}
use Rattle.rules.specs.Copies.{put}
use Rattle.rules.specs.Switch.{Arrived, Behind, State, new_state, numbers}
use Rattle.rules.specs.Runs.{Call, answer_of, arrived_in, bit, last, moment, state_after}
use Rattle.rules.specs.Laws.{Admits, Lawful, is_arrived, refuses}
use Rattle.rules.specs.Stories.{Story, Tied}
use Rattle.rules.specs.Cells.{Accounted, Among, Cells, Chained, ContentsAfter, Event, GrantedTo, HasCopy, LetIn, OnlyFreed, Throughout}
use Rattle.rules.proofs.Steps.{Stepped, step}
use Rattle.rules.proofs.Walks.{last_push, run_push}
use Rattle.rules.proofs.Laws.{holds_of}

-- one of a list, and one more at its end
within_none : {A : Type 0} (past : List A) (x : A) → Among [] past x → ⊥
within_none [] x (future, e) = cc
within_none (y ∷ past) x (future, e) = cc

within_more : {A : Type 0} (xs past : List A) (x y : A) → Among xs past x → Among (xs ++ y ∷ []) past x
within_more xs past x y (future, e) = (future ++ y ∷ [], ap (λ l. l ++ y ∷ []) e ∙ append_assoc past (x ∷ future) (y ∷ []))

within_push : {A : Type 0} (xs : List A) (y : A) (past : List A) (x : A) → Among (xs ++ y ∷ []) past x → Among xs past x ⊎ ((xs ≡ past) × (y ≡ x))
within_push [] y [] x (future, e) = inr (refl, cc)
within_push [] y (z ∷ past) x (future, e) = absurd (within_none past x (future, cc))
within_push (z ∷ xs) y [] x (future, e) = inl (xs, cc)
within_push (z ∷ xs) y (w ∷ past) x (future, e) =
    ⊎_elim (λ r. inl (r.0, let q = r.1 in cc)) (λ r. inr (let q = r.0 in cc, r.1)) (within_push xs y past x (future, cc))

within_map : {A B : Type 0} (f : A → B) (xs past : List A) (x : A) → Among xs past x → Among (map f xs) (map f past) (f x)
within_map f xs past x (future, e) = (map f future, ap (map f) e ∙ map-append f past (x ∷ future))

always_push : {A : Type 0} (P : List A → A → Type 0) (xs : List A) (y : A) → Throughout xs P → P xs y → Throughout (xs ++ y ∷ []) P
always_push P xs y all here past x w = ⊎_elim (all past x) (λ r. subst (P past) r.1 (subst (λ l. P l y) r.0 here)) (within_push xs y past x w)

chained_push : (first : List Bool) (es : List Event) (last : List Bool) (e : Event) → Chained first es last → e.found ≡ last → Chained first (es ++ e ∷ []) e.left
chained_push first [] last e h q = (q ∙ h, refl)
chained_push first (d ∷ es) last e h q = (h.0, chained_push d.left es last e h.1 q)

-- this event grants cell c to frame n
record Grants (e : Event) (n c : ℕ) : Type 0 where
  answer : Arrived
  answered : arrived_in e.moment.answer ≡ Some answer
  number : answer.number ≡ n
  cell : c < cell_count
  was_free : free_at e.found c ≡ true
  now_taken : free_at e.left c ≡ false

granted_in : (es past : List Event) (e : Event) (n c : ℕ) → Among es past e → Grants e n c → GrantedTo es n c
granted_in es past e n c w g =
    record { past = past; event = e; within = w; answer = g.answer; answered = g.answered; number = g.number; cell = g.cell; was_free = g.was_free; now_taken = g.now_taken }

grants : {es : List Event} {n c : ℕ} (g : GrantedTo es n c) → Grants g.event n c
grants g = record { answer = g.answer; answered = g.answered; number = g.number; cell = g.cell; was_free = g.was_free; now_taken = g.now_taken }

granted_more : (es : List Event) (e : Event) (n c : ℕ) → GrantedTo es n c → GrantedTo (es ++ e ∷ []) n c
granted_more es e n c g = granted_in (es ++ e ∷ []) g.past g.event n c (within_more es g.past g.event e g.within) (grants g)

granted_push : (es : List Event) (e : Event) (n c : ℕ) → GrantedTo (es ++ e ∷ []) n c → GrantedTo es n c ⊎ Grants e n c
granted_push es e n c g =
    ⊎_elim
    (λ w. inl (granted_in es g.past g.event n c w (grants g)))
    (λ r. inr (subst (λ x. Grants x n c) (sym r.1) (grants g)))
    (within_push es e g.past g.event g.within)

-- a cell's mark, by what it holds
marked_as : {s : State} {marks : List Bool} {contents : ℕ → Option ℕ} {o : Option ℕ} → Tied s marks contents → (c : ℕ) → c < cell_count → contents c ≡ o → free_at marks c ≡ not (is_some o)
marked_as tied c l e = tied.marked c l ∙ ap (λ o. not (is_some o)) e

some_from : (o : Option ℕ) → not (is_some o) ≡ false → (n : ℕ) × (o ≡ Some n)
some_from None h = cc
some_from (Some n) h = (n, refl)

pub story_new : (b : Behind) (slot number rate depth : ℕ) (marks : List Bool) (contents : ℕ → Option ℕ) → slot < numbers → marks ≡ all_free → Tied (new_state slot number rate depth) marks contents → Story b slot number rate depth [] (new_state slot number rate depth) marks contents
story_new b slot number rate depth marks contents small free tied =
    record {
      events = [];
      moments = refl;
      state = refl;
      small = small;
      chain = free;
      granted = λ past e w. absurd (within_none past e w);
      given_back = λ past e w. absurd (within_none past e w);
      refused = λ past e w. absurd (within_none past e w);
      before = λ past e w. absurd (within_none past e w);
      tied = tied;
      origin = λ c n h. absurd (omega (arith, (tied.copied c n h).1.2));
      young = λ n c g. absurd (within_none g.past g.event g.within);
      one = λ n c d g h. absurd (within_none g.past g.event g.within);
    }

module _ {b : Behind} {slot number rate depth : ℕ} {calls : List Call} {s : State} {marks : List Bool} {contents : ℕ → Option ℕ} (st : Story b slot number rate depth calls s marks contents) where
  -- a frame with a copy is in the cell that was granted it
  housed_at : (n c : ℕ) → GrantedTo st.events n c → HasCopy s n → contents c ≡ Some n
  housed_at n c g h = let r = st.tied.housed n h in ap contents (st.one n c r.0 g (st.origin r.0 n r.1)) ∙ r.1

  accounted : Accounted st.events marks s
  accounted =
      record {
        taken = λ c l. (
          λ h. let r = some_from (contents c) (sym (st.tied.marked c l) ∙ h) in (r.0, st.origin c r.0 r.1, (st.tied.copied c r.0 r.1).1),
          λ r. marked_as st.tied c l (housed_at r.0 c r.1 r.2),
        );
        apart = λ c n k g h x y. let p = housed_at n c g x in let q = housed_at k c h y in cc;
        count = st.tied.count;
      }

-- an Arrive let a frame in, or the call did not
let_in_or : (o : Option Arrived) (x y : ℕ → Option ℕ) → ContentsAfter o x y → ((o ≡ None) × OnlyFreed x y) ⊎ ((a : Arrived) × (o ≡ Some a) × LetIn a.number x y)
let_in_or None x y h = inl (refl, h)
let_in_or (Some a) x y h = inr (a, refl, h)

-- one call more
module _ {b : Behind} {slot number rate depth : ℕ} {calls : List Call} {s : State} {marks : List Bool} {contents : ℕ → Option ℕ} (lawful : Lawful b) (st : Story b slot number rate depth calls s marks contents) (c : Call) (s' : State) (marks' : List Bool) (contents' : ℕ → Option ℕ) (is : s' ≡ state_after b s c) (after : ContentsAfter (arrived_in (answer_of b s c)) contents contents') (kept : refuses (answer_of b s c) ≡ true → marks' ≡ marks) (tied' : Tied s' marks' contents') where
  abbrev event : Event
  event = record { moment = moment b s c; found = marks; left = marks' }

  abbrev events' : List Event
  events' = st.events ++ event ∷ []

  stepped : Stepped b (moment b s c)
  stepped = step b lawful s st.small c

  same_mark : (k : ℕ) → k < cell_count → contents' k ≡ contents k → free_at marks' k ≡ free_at marks k
  same_mark k l e = marked_as tied' k l e ∙ sym (st.tied.marked k l)

  -- the cell that a frame is let into is taken, and the others are as they were
  one_marked : (n k : ℕ) → k < cell_count → contents' k ≡ Some n → ((j : ℕ) → (j ≡ k → ⊥) → contents' j ≡ contents j) → marks' ≡ set marks k false
  one_marked n k l e other =
      ext_get_or false marks' (set marks k false) (tied'.wide ∙ sym (length-set marks k false ∙ st.tied.wide))
      (λ j h.
      let m : j < cell_count = omega (arith, tied'.wide) in
      ⊎_elim
      (λ q. marked_as tied' j m (ap contents' q ∙ e) ∙ sym (ap (free_at (set marks k false)) q ∙ get_or-set_same marks k false false (omega (arith, st.tied.wide))))
      (λ d. same_mark j m (other j d) ∙ sym (get_or-set_other marks k j false false d))
      (cases_eq j k))

  happened : ((arrived_in (answer_of b s c) ≡ None) × OnlyFreed contents contents') ⊎ ((a : Arrived) × (arrived_in (answer_of b s c) ≡ Some a) × LetIn a.number contents contents')
  happened = let_in_or (arrived_in (answer_of b s c)) contents contents' after

  module _ (n k : ℕ) (p : contents' ≡ put contents k (Some n)) where
    let_here : contents' k ≡ Some n
    let_here = ap (λ f. f k) p ∙ update_here contents k (Some n)

    let_apart : (j : ℕ) → (j ≡ k → ⊥) → contents' j ≡ contents j
    let_apart j d = ap (λ f. f j) p ∙ cond-false (eqb j k) (Some n) (contents j) (ne_eqb j k d)

  granted_now : is_arrived (moment b s c) ≡ true → (k : ℕ) × (k < cell_count) × (free_at marks k ≡ true) × (marks' ≡ set marks k false)
  granted_now h =
      ⊎_elim (λ r. absurd (both_ways (is_arrived (moment b s c)) (ap is_some r.0) h))
      (λ (a, e, (k, l, z, p)). (k, l, marked_as st.tied k l z, one_marked a.number k l (let_here a.number k p) (let_apart a.number k p)))
      happened

  given_now : is_arrived (moment b s c) ≡ false → (k : ℕ) → k < cell_count → free_at marks k ≡ true → free_at marks' k ≡ true
  given_now h k l f =
      ⊎_elim (λ r. ⊎_elim (λ e. same_mark k l e ∙ f) (marked_as tied' k l) (r.1 k))
      (λ r. absurd (both_ways (is_arrived (moment b s c)) h (ap is_some r.1)))
      happened

  origin_now : (k n : ℕ) → contents' k ≡ Some n → GrantedTo events' n k
  origin_now k n h =
      ⊎_elim
      (λ r.
      ⊎_elim (λ e. granted_more st.events event n k (st.origin k n (sym e ∙ h)))
      (λ e. cc)
      (r.1 k))
      (λ (a, e, (j, l, z, p)).
      ⊎_elim
      (λ q.
      let here = let_here a.number j p in
      let m : k < cell_count = (tied'.copied k n h).0 in
      granted_in events' st.events event n k ([], refl)
      (record { answer = a; answered = e; number = cc; cell = m; was_free = marked_as st.tied k m (ap contents q ∙ z); now_taken = marked_as tied' k m h }))
      (λ d. granted_more st.events event n k (st.origin k n (sym (let_apart a.number j p k d) ∙ h)))
      (cases_eq k j))
      happened

  -- it goes by the next number, which no frame had
  number_now : (n k : ℕ) → Grants event n k → n ≡ s.next
  number_now n k g = sym g.number ∙ stepped.number_is g.answer g.answered

  young_now : (n k : ℕ) → GrantedTo events' n k → n < s'.next
  young_now n k g =
      let next : s'.next ≡ s.next + bit (is_arrived (moment b s c)) = ap (λ t. t.next) is ∙ stepped.next_is in
      ⊎_elim (λ x. omega (arith, st.young n k x))
      (λ x. omega (arith, number_now n k x, ap (λ o. bit (is_some o)) x.answered))
      (granted_push st.events event n k g)

  only_granted : (n j k : ℕ) → marks' ≡ set marks k false → Grants event n j → j ≡ k
  only_granted n j k e g =
      ⊎_elim (λ q. q)
      (λ d. absurd (both_ways (free_at marks j) (sym (ap (λ l. free_at l j) e ∙ get_or-set_other marks k j false false d) ∙ g.now_taken) g.was_free))
      (cases_eq j k)

  one_now : (n j k : ℕ) → GrantedTo events' n j → GrantedTo events' n k → j ≡ k
  one_now n j k g h =
      ⊎_elim
      (λ x. ⊎_elim (λ y. st.one n j k x y) (λ y. absurd (omega (arith, st.young n j x, number_now n k y))) (granted_push st.events event n k h))
      (λ x.
      ⊎_elim (λ y. absurd (omega (arith, st.young n k y, number_now n j x)))
      (λ y. let r = granted_now (ap is_some x.answered) in only_granted n j r.0 r.3 x ∙ sym (only_granted n k r.0 r.3 y))
      (granted_push st.events event n k h))
      (granted_push st.events event n j g)

  pub story_push : Story b slot number rate depth (calls ++ c ∷ []) s' marks' contents'
  story_push =
      record {
        events = events';
        moments =
            map_push (λ e. e.moment) st.events event
            ∙ (λ i. st.moments i ++ moment b (st.state i) c ∷ [])
            ∙ sym (run_push b (new_state slot number rate depth) calls c);
        state = is ∙ ap (λ t. state_after b t c) st.state ∙ sym (last_push b (new_state slot number rate depth) calls c);
        small = subst (λ t. t.slot < numbers) (sym is) stepped.small;
        chain = chained_push all_free st.events marks event st.chain refl;
        granted = always_push _ st.events event st.granted granted_now;
        given_back = always_push _ st.events event st.given_back given_now;
        refused = always_push _ st.events event st.refused kept;
        before = always_push (λ past e. Accounted past e.found e.moment.before) st.events event st.before (accounted st);
        tied = tied';
        origin = origin_now;
        young = young_now;
        one = one_now;
      }

pub story_cells : {b : Behind} {slot number rate depth : ℕ} {calls : List Call} {s : State} {marks : List Bool} {contents : ℕ → Option ℕ} → Lawful b → slot < numbers → (st : Story b slot number rate depth calls s marks contents) → Cells st.events marks s
story_cells {b} {slot} {number} {rate} {depth} {calls} lawful small st =
    record {
      chain = st.chain;
      granted = st.granted;
      given_back = st.given_back;
      refused = st.refused;
      before = st.before;
      at_end = accounted st;
      admission = λ past e w.
          subst (λ n. Admits n e.moment) (sym (st.before past e w).count)
          ((holds_of b lawful slot number rate depth small calls).admission.cells (map (λ x. x.moment) past) e.moment
          (subst (λ l. Among l (map (λ x. x.moment) past) e.moment) st.moments (within_map (λ x. x.moment) st.events past e w)));
    }
