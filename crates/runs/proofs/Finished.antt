-- A run whose turns were all made. Assumes nothing.
use Rattle.std.proofs.Common.{◌≡◌, ℕ, ◌<◌, ◌≤◌, List, map, length, is_some, Some, None, Option, sym, refl, ap, ◌∙◌, subst, arith}
use Rattle.std.proofs.lemmas.List.{take_all}
use Rattle.std.specs.Option.{option_map}
use Rattle.cells.specs.declared.stores.Store.{Ghosts}
use Rattle.rules.proofs.Promises.{promised}
use Rattle.rules.specs.Copies.{Copy}
use Rattle.rules.specs.Laws.{Lawful}
use Rattle.rules.specs.Runs.{bit, run, sum4, total}
use Rattle.rules.specs.Stories.{Story}
use Rattle.rules.specs.Switch.{Behind, State, numbers, standing}
use Rattle.rules.specs.Twins.{AllAddressed}
use Rattle.switch.specs.Answers.{gauged, standing_rows}
use Rattle.switch.specs.Switches.{cells, contents, state}
use Rattle.switch.specs.declared.answers.Gauged.{Gauged as Given}
use Rattle.switch.specs.declared.switches.Switch.{Switch}
use Rattle.switch.specs.declared.switches.starts.Settings.{Settings}
use Rattle.runs.proofs.Underway.{Underway, asked_by, made_as}
use Rattle.runs.specs.Gauges.{all_gauged}
use Rattle.runs.specs.Statement.{Statement, started, sum, view}
use Rattle.runs.specs.Turns.{asked}
use Rattle.runs.specs.declared.turns.Turn.{Turn}

out_told : (o : Option Copy) → bit (is_some (option_map (λ c. c.number) o)) ≡ bit (is_some o)
out_told None = refl
out_told (Some c) = refl

-- what Standing and Gauge answer, summed
standing_sum : (t : State) → sum (map sum (standing_rows t)) ≡ sum4 (λ p. sum4 (λ k. standing t p k))
standing_sum t = omega arith

gauges_sum : (t : State) → total (λ g. bit (is_some g.out)) (all_gauged t) ≡ sum4 (λ p. bit (is_some (t.port p).out))
gauges_sum t = omega (arith, out_told (t.port 0).out, out_told (t.port 1).out, out_told (t.port 2).out, out_told (t.port 3).out)

module _ {S P R F : Type 0} {store : Ghosts S} {b : Behind} {before now : List Turn} {i : ℕ} {s : Switch S P R F store} (settings : Settings) (under : Underway b settings.slot settings.number settings.bucket.rate settings.bucket.depth before now i s) (done : length before ≤ i) (all : length now ≤ i) where
  all_asked : asked_by before i ≡ map asked before
  all_asked = ap (map asked) (take_all i before done)

  pub all_addressed : AllAddressed (map asked before)
  all_addressed = subst AllAddressed all_asked under.addressed

  pub finished : Lawful b → settings.slot < numbers → (rows : List (List ℕ)) (gauges : List Given) → rows ≡ standing_rows (state s) → map gauged gauges ≡ all_gauged (state s) → Statement settings (view {store = store} b before now (record { switch = s; standing = rows; gauges = gauges }))
  finished lawful small rows gauges stands read =
      let story = subst (λ cs. Story b settings.slot settings.number settings.bucket.rate settings.bucket.depth cs (state s) (cells s) (contents s)) all_asked under.story in
      let promise = promised lawful small story in
      record {
        events = story.events;
        promise = promise;
        turns = made_as (sym (take_all i before done)) (story.moments ∙ ap (run b (started settings)) (sym all_asked)) (sym (take_all i now all)) under.turns;
        sums = omega (arith, promise.account.sums, ap (λ x. sum (map sum x)) stands, standing_sum (state s), ap (total (λ g. bit (is_some g.out))) read, gauges_sum (state s));
      }
