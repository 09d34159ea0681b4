-- Two runs that ask for the same. Assumes nothing.
use Rattle.std.proofs.Common.{◌≡◌, ◌<◌, List, [], ◌∷◌, map, Some, sym, refl, ap, ◌∙◌}
use Rattle.rules.proofs.Twins.{run_alike}
use Rattle.rules.specs.Promises.{moments}
use Rattle.rules.specs.Runs.{Moment, run}
use Rattle.rules.specs.Switch.{numbers}
use Rattle.rules.specs.Twins.{AllAddressed}
use Rattle.switch.specs.declared.switches.starts.Settings.{Settings}
use Rattle.runs.specs.Statement.{Statement, Twins, View, started}
use Rattle.runs.specs.Turns.{AllMade, answered, asked}
use Rattle.runs.specs.declared.turns.Turn.{Turn}

-- the answers in the turns are those of the run
answers_of : (before : List Turn) (ms : List Moment) (after : List Turn) → AllMade before ms after → map answered after ≡ map (λ m. Some m.answer) ms
answers_of [] [] [] all = refl
answers_of [] [] (u ∷ us) all = absurd all
answers_of [] (m ∷ ms) us all = absurd all
answers_of (t ∷ ts) [] us all = absurd all
answers_of (t ∷ ts) (m ∷ ms) [] all = absurd all
answers_of (t ∷ ts) (m ∷ ms) (u ∷ us) all = λ i. all.0.answer i ∷ answers_of ts ms us all.1 i

answered_by : {settings : Settings} {v : View} → Statement settings v → map answered v.after ≡ map (λ m. Some m.answer) (run v.behind (started settings) (map asked v.before))
answered_by {settings} {v} said =
    answers_of v.before (moments said.events) v.after said.turns ∙ ap (map (λ m. Some m.answer)) said.promise.made

pub twins_by : {settings : Settings} {v w : View} → settings.slot < numbers → AllAddressed (map asked v.before) → Statement settings v → Statement settings w → Twins settings v w
twins_by {settings} {v} {w} small addressed one two = record {
  one = one;
  two = two;
  alike = λ alike asks.
      answered_by one
      ∙ ap (map (λ m. Some m.answer)) (run_alike v.behind w.behind alike (started settings) small (map asked v.before) addressed ∙ ap (run w.behind (started settings)) asks)
      ∙ sym (answered_by two);
}
