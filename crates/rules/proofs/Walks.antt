-- What every moment keeps holds throughout a run. Assumes nothing.
use Rattle.std.proofs.Common.{◌≡◌, List, [], ◌∷◌, ◌++◌, sym, refl, ap, ◌∙◌, subst, append_assoc, append-nil}
use Rattle.rules.specs.Switch.{Behind, State}
use Rattle.rules.specs.Runs.{Call, Moment, moment, state_after, run, last}
use Rattle.rules.specs.Laws.{Within}

-- one call more
pub run_push : (b : Behind) (s : State) (cs : List Call) (c : Call) → run b s (cs ++ c ∷ []) ≡ run b s cs ++ moment b (last b s cs) c ∷ []
run_push b s [] c = refl
run_push b s (d ∷ cs) c = ap (λ l. moment b s d ∷ l) (run_push b (state_after b s d) cs c)

pub last_push : (b : Behind) (s : State) (cs : List Call) (c : Call) → last b s (cs ++ c ∷ []) ≡ state_after b (last b s cs) c
last_push b s [] c = refl
last_push b s (d ∷ cs) c = last_push b (state_after b s d) cs c

-- a relation between the moments so far and the state that they lead to, which every call keeps
module _ (b : Behind) (I : List Moment → State → Type 0) (keeps : (h : List Moment) (s : State) (c : Call) → I h s → I (h ++ moment b s c ∷ []) (state_after b s c)) where
  pub at_end : (cs : List Call) (h : List Moment) (s : State) → I h s → I (h ++ run b s cs) (last b s cs)
  at_end [] h s i = subst (λ (l : List Moment). I l s) (sym (append-nil h)) i
  at_end (c ∷ cs) h s i =
      subst (λ (l : List Moment). I l (last b s (c ∷ cs))) (append_assoc h (moment b s c ∷ []) (run b (state_after b s c) cs))
      (at_end cs (h ++ moment b s c ∷ []) (state_after b s c) (keeps h s c i))

  -- before each moment of the run
  pub record Met (h : List Moment) (m : Moment) : Type 0 where
    pub state : State
    pub call : Call
    pub is : moment b state call ≡ m
    pub inv : I h state

  pub at_each : (cs : List Call) (h : List Moment) (s : State) → I h s → (past : List Moment) (m : Moment) → Within (run b s cs) past m → Met (h ++ past) m
  at_each [] h s i [] m (future, e) = cc
  at_each [] h s i (x ∷ past) m (future, e) = cc
  at_each (c ∷ cs) h s i [] m (future, e) = record { state = s; call = c; is = cc; inv = subst (λ (l : List Moment). I l s) (sym (append-nil h)) i }
  at_each (c ∷ cs) h s i (x ∷ past) m (future, e) =
      let q : moment b s c ≡ x = cc in
      let r : run b (state_after b s c) cs ≡ past ++ m ∷ future = cc in
      subst (λ (l : List Moment). Met l m) (append_assoc h (moment b s c ∷ []) past ∙ ap (λ y. h ++ y ∷ past) q)
      (at_each cs (h ++ moment b s c ∷ []) (state_after b s c) (keeps h s c i) past m (future, r))
