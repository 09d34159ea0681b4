-- How a copy is taken at a port, step by step. Assumes nothing.
use Rattle.std.proofs.Common.{◌≡◌, ℕ, ◌+◌, ◌-◌, ◌≤◌, Bool, true, false, ltb, List, [], ◌∷◌, length, drop, is_some, Some, None, sym, refl, ap, ◌∙◌, arith}
use Rattle.std.proofs.lemmas.Bool.{cond_both, cond-false, cond-true, false≢true, ltb-false}
use Rattle.std.specs.Option.{option_map}
use Rattle.buffers.specs.Holdings.{egress, first_out}
use Rattle.cells.specs.Fifos.{first_of, rest_of}
use Rattle.buffers.specs.Sent.{copy_sent}
use Rattle.buffers.specs.declared.buffers.Buffers.{Buffers}
use Rattle.rules.specs.Copies.{Copy, Egress, affordable, cost, put, take_best_effort, take_paid, take_sending, too_dear, with_out, with_queue, with_tokens}
use Rattle.egress.proofs.Changes.{changed_so, changed_then, port_after}
use Rattle.egress.proofs.Cuts.{rest_drop}
use Rattle.egress.proofs.Ports.{put_own, put_put}
use Rattle.egress.specs.Changes.{ChangesPort}
use Rattle.egress.specs.Takings.{is_dear, pays, shows, unburdened}

-- a queue that begins with a copy that costs too much
pub dear_there : (t : ℕ) (cs : List Copy) → is_dear t cs ≡ true → is_some (first_of cs) ≡ true
dear_there t [] dear = absurd (false≢true dear)
dear_there t (c ∷ cs) dear = refl

-- what a queue has of copies that cost too much, where its first n do
pub record Dear (t n : ℕ) (cs : List Copy) : Type 0 where
  pub counted : length (too_dear t cs) ≡ n + length (too_dear t (drop n cs))
  pub rest : affordable t cs ≡ affordable t (drop n cs)

pub dear_none : (t : ℕ) (cs : List Copy) → Dear t 0 cs
dear_none t cs = record { counted = omega arith; rest = refl }

one_dear : (t : ℕ) (cs : List Copy) → is_dear t cs ≡ true → (length (too_dear t cs) ≡ 1 + length (too_dear t (rest_of cs))) × (affordable t cs ≡ affordable t (rest_of cs))
one_dear t [] dear = absurd (false≢true dear)
one_dear t (c ∷ cs) dear = (omega (arith, ap length (cond-true (ltb t (cost c)) (c ∷ too_dear t cs) [] dear)), cond-true (ltb t (cost c)) (affordable t cs) (c ∷ cs) dear)

none_dear : (t : ℕ) (cs : List Copy) → is_dear t cs ≡ false → (length (too_dear t cs) ≡ 0) × (affordable t cs ≡ cs)
none_dear t [] cheap = (refl, refl)
none_dear t (c ∷ cs) cheap = (ap length (cond-false (ltb t (cost c)) (c ∷ too_dear t cs) [] cheap), cond-false (ltb t (cost c)) (affordable t cs) (c ∷ cs) cheap)

pub dear_on : {t n : ℕ} {cs : List Copy} → Dear t n cs → is_dear t (drop n cs) ≡ true → Dear t (n + 1) cs
dear_on {t} {n} {cs} so_far dear =
    let one = one_dear t (drop n cs) dear in
    record {
      counted = omega (arith, so_far.counted, one.0, ap (λ r. length (too_dear t r)) (rest_drop n cs));
      rest = so_far.rest ∙ one.1 ∙ ap (affordable t) (rest_drop n cs);
    }

pub dear_all : {t n : ℕ} {cs : List Copy} → Dear t n cs → is_dear t (drop n cs) ≡ false → (n ≡ length (too_dear t cs)) × (drop n cs ≡ affordable t cs)
dear_all {t} {n} {cs} done cheap =
    let none = none_dear t (drop n cs) cheap in
    (omega (arith, done.counted, none.0), sym (done.rest ∙ none.1))

-- a first copy that does not cost too much can be paid for
pub payable : (t price : ℕ) (cs : List Copy) → Some price ≡ option_map cost (first_of cs) → is_dear t cs ≡ false → price ≤ t
payable t price [] is cheap = absurd (let z : ◌≡◌ {A = ℕ} 0 1 = cc in omega arith)
payable t price (c ∷ cs) is cheap = let same : price ≡ cost c = cc in omega (arith, ltb-false t (cost c) cheap)

-- moved out once its cost is taken off the tokens, it has paid
pub paid_out : (e : Egress) (t price : ℕ) (cs : List Copy) → Some price ≡ option_map cost (first_of cs) → t ≡ e.tokens - price → with_out (with_tokens (with_queue e 2 (rest_of cs)) t) (first_of cs) ≡ pays e cs
paid_out e t price [] is left = absurd (let z : ◌≡◌ {A = ℕ} 0 1 = cc in omega arith)
paid_out e t price (c ∷ cs) is left =
    let same : price ≡ cost c = cc in
    λ i. with_out (with_tokens (with_queue e 2 cs) ((left ∙ ap (λ x. e.tokens - x) same) i)) (Some c)

-- where there is no copy, nothing is paid
pub unpaid : (e : Egress) (cs : List Copy) → first_of cs ≡ None → pays e cs ≡ e
unpaid e [] is = refl
unpaid e (c ∷ cs) is = absurd (let z : ◌≡◌ {A = ℕ} 0 1 = cc in omega arith)

-- what is left of a queue costs too much no more
pub cheap_now : (t : ℕ) (cs : List Copy) → is_dear t (affordable t cs) ≡ false
cheap_now t [] = refl
cheap_now t (c ∷ cs) = cond_both (ltb t (cost c)) (affordable t cs) (c ∷ cs) (λ r. is_dear t r ≡ false) (λ dear. cheap_now t cs) (λ cheap. cheap)

-- a queue that shows no first copy is empty
pub none_first : (cs : List Copy) → None ≡ option_map copy_sent (first_of cs) → cs ≡ []
none_first [] is = refl
none_first (c ∷ cs) is = absurd (let z : ◌≡◌ {A = ℕ} 0 1 = cc in omega arith)

-- moving nothing out changes nothing
pub nothing_out : (k : ℕ) (e : Egress) → e.queue k ≡ [] → e.out ≡ None → first_out k e ≡ e
nothing_out k e empty none =
    (λ i. with_out (with_queue e k (rest_of (empty i))) (first_of (empty i)))
    ∙ (λ i. record { queue = (ap (put e.queue k) (sym empty) ∙ sym (put_own e.queue k)) i; tokens = e.tokens; out = sym none i })

-- the queue that is sent in this slot
module _ (k : ℕ) (open2 open3 : Bool) (e : Egress) where
  pub sent_first : (cs : List Copy) (x : ℕ × ℕ) → Some x ≡ option_map copy_sent (first_of cs) → ((Some x, 0) ≡ shows (take_sending k open2 open3 e cs)) × (with_out (with_queue e k (rest_of cs)) (first_of cs) ≡ (take_sending k open2 open3 e cs).left)
  sent_first [] x is = absurd (let z : ◌≡◌ {A = ℕ} 0 1 = cc in omega arith)
  sent_first (c ∷ cs) x is = (λ i. (is i, 0), refl)

-- best effort
pub best_effort_first : (e : Egress) (n : ℕ) (cs : List Copy) → e.queue 3 ≡ cs → e.out ≡ None → ((option_map copy_sent (first_of cs), n) ≡ shows (take_best_effort e n cs)) × (with_out (with_queue e 3 (rest_of cs)) (first_of cs) ≡ (take_best_effort e n cs).left)
best_effort_first e n [] is none = (refl, (λ i. with_out (with_queue e 3 (rest_of (sym is i))) (first_of (sym is i))) ∙ nothing_out 3 e is none)
best_effort_first e n (c ∷ cs) is none = (refl, refl)

-- what is paid for
module _ (open3 : Bool) (e : Egress) (n : ℕ) where
  pub paid_first : (cs : List Copy) (x : ℕ × ℕ) → Some x ≡ option_map copy_sent (first_of cs) → ((Some x, n) ≡ shows (take_paid open3 e n cs)) × (pays (with_queue e 2 cs) cs ≡ (take_paid open3 e n cs).left)
  paid_first [] x is = absurd (let z : ◌≡◌ {A = ℕ} 0 1 = cc in omega arith)
  paid_first (c ∷ cs) x is = (
    λ i. (is i, n),
    λ i. record { queue = put_put e.queue 2 (c ∷ cs) cs i; tokens = e.tokens - cost c; out = Some c },
  )

-- the copies that cost too much are gone, and then the first of the others has paid, if there is one
module _ {before mid after : Buffers} {p : ℕ} (gone : ChangesPort before mid p unburdened) (paid : ChangesPort mid after p (λ e. pays e (e.queue 2))) where
  pub left_there : (d : ℕ) → (egress d mid p).queue 2 ≡ affordable (egress d before p).tokens ((egress d before p).queue 2)
  left_there d = ap (λ e. e.queue 2) (port_after gone d)

  pub both_paid : ChangesPort before after p (λ e. pays (unburdened e) (affordable e.tokens (e.queue 2)))
  both_paid = changed_so (changed_then gone paid) (λ d. refl)

  module _ (none : (d : ℕ) → None ≡ option_map copy_sent (first_of ((egress d mid p).queue 2))) where
    -- there was none
    pub all_dear : (d : ℕ) → affordable (egress d before p).tokens ((egress d before p).queue 2) ≡ []
    all_dear d = sym (left_there d) ∙ none_first ((egress d mid p).queue 2) (none d)

    pub none_paid : ChangesPort before after p (λ e. with_queue e 2 [])
    none_paid = changed_so both_paid (λ d i. pays (with_queue (egress d before p) 2 (all_dear d i)) (all_dear d i))
