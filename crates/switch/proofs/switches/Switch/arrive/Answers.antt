use Rattle.std.proofs.Common.{◌≡◌, ℕ, ◌<◌, List, [], sym, ap, ◌∙◌, arith}
use Rattle.std.proofs.lemmas.Bool.{cond-false}
use Rattle.std.proofs.lemmas.Result.{err_from_is_err_and}
use Rattle.buffers.specs.Holdings.{egress}
use Rattle.frame.specs.Classes.{class_number}
use Rattle.frame.specs.Frames.{class, destination}
use Rattle.frame.specs.Numbers.{queue_number, set_bits}
use Rattle.frame.specs.Refusals.{accepted, refused, says}
use Rattle.rules.specs.Copies.{queue_for}
use Rattle.rules.specs.Switch.{Arrived, Behind, State, arrive_answer, arrive_checks, arrive_port, judged, set_of, way_of}
use Rattle.rules.proofs.Checks.{leaves_kept, leaves_state, passed, stopped}
use Rattle.egress.proofs.Each.{each_all}
use Rattle.egress.proofs.Laid.{none_above}
use Rattle.egress.specs.Ports.{laid_in}
use Rattle.switch.proofs.Admitted.{Through, destination_low, floor_some, ports_there, through}
use Rattle.switch.proofs.Tied.{tied}
use Rattle.switch.specs.Admissions.{admission}
use Rattle.switch.specs.Switches.{behind, state}
use Rattle.switch.proofs.switches.Switch.arrive.Goals as goal
use Rattle.switch.proofs.switches.Switch.arrive.Goals.{In_err-class, In_ok-class}

-- a check refuses
module _ (g : _) (c : In_err-class g) where
  said : refused (says c.in_err-class.field-0.0).0 (says c.in_err-class.field-0.0).1 ≡ arrive_answer (behind g.P.Plan.fills g.P.Plan.opens g.R.Rule.floors g.F.Forwarding.forwards c.args.self.now) (state c.args.self.now) c.args.port c.args.bytes.now
  said = stopped (arrive_checks (behind g.P.Plan.fills g.P.Plan.opens g.R.Rule.floors g.F.Forwarding.forwards c.args.self.now) (state c.args.self.now) c.args.port c.args.bytes.now) _ _ _ _ c.in_err-class.ensures

pub returns-in_err-class-clause-answer : goal.returns-in_err-class-clause-answer
returns-in_err-class-clause-answer g c =
    let r = err_from_is_err_and c.from_residual.result c.from_residual.ensures.1 in
    rw (r.1, r.2) (said g (goal.at.returns-in_err-class-clause-answer g c).In_err-class)

pub returns-in_err-class-clause-state : goal.returns-in_err-class-clause-state
returns-in_err-class-clause-state g c = leaves_kept _ _ _ _ _ (said g (goal.at.returns-in_err-class-clause-state g c).In_err-class)

-- no check does
module _ (g : _) (c : In_ok-class g) where
  abbrev means : Behind
  means = behind g.P.Plan.fills g.P.Plan.opens g.R.Rule.floors g.F.Forwarding.forwards c.args.self.now

  abbrev stands : State
  stands = state c.args.self.now

  -- its class, and the ports of its way
  abbrev due : ℕ × ℕ
  due = (class c.args.bytes.now, set_of (way_of means stands c.args.port c.args.bytes.now))

  told : accepted (admission c.in_ok-class.field-0) ≡ judged (arrive_checks means stands c.args.port c.args.bytes.now) due
  told = c.in_ok-class.ensures

  known : Through means stands c.args.port c.args.bytes.now
  known = through means stands c.args.port c.args.bytes.now _ _ told

  is : admission c.in_ok-class.field-0 ≡ due
  is = (passed (arrive_checks means stands c.args.port c.args.bytes.now) [] _ _ c.args.port told).0

pub accept-number-requires-clause-room : goal.accept-number-requires-clause-room
accept-number-requires-clause-room g c =
    let at = (goal.at.accept-number-requires-clause-room g c).In_ok-class in
    let now = c.args.self.now in
    let b : Behind = means g at in
    omega (arith, (tied now (g.met.S.Store.wide now.pool.store)).count, (known g at).room, floor_some b.floor (g.met.R.Rule.fair now.kinds.rule) c.in_ok-class.field-0.class, ap (λ t. b.floor t.0) (is g at))

pub accept-number-requires-clause-ports : goal.accept-number-requires-clause-ports
accept-number-requires-clause-ports g c =
    let at = (goal.at.accept-number-requires-clause-ports g c).In_ok-class in
    let f : List ℕ = c.args.bytes.now in
    let low : destination f < 281474976710656 = destination_low f (λ i. (c.type_inv.bytes i).fits) in
    omega (arith, ports_there (means g at) (stands g at) c.args.port f (known g at) (g.met.F.Forwarding.proper c.args.self.now.kinds.forwarding (destination f) c.args.port low (known g at).port), ap (λ t. t.1) (is g at))

pub returns-clause-state : goal.returns-clause-state
returns-clause-state g c =
    let at = (goal.at.returns-clause-state g c).In_ok-class in
    let b : Behind = means g at in
    let s : State = stands g at in
    let p : ℕ = c.args.port in
    let f : List ℕ = c.args.bytes.now in
    let a = c.in_ok-class.field-0 in
    let here : Arrived = record { number = s.next; class = class f; set = set_of (way_of b s p f) } in
    let on = passed (arrive_checks b s p f) [] _ _ here (told g at) in
    let accept = c.accept-number.ensures in
    let k : ℕ = queue_number c.queue_of-queue.result in
    let queue : k ≡ queue_for (b.fill s.slot) (class f) = c.queue_of-queue.ensures ∙ (λ i. queue_for (c.fill.ensures i) (on.0 i).0) in
    let ports : egress s.depth c.accept-number.new.self.buffers ≡ arrive_port b s p f =
    accept.state s.depth
    ∙ each_all (laid_in (set_bits a.ports) k (record { number = s.next; class = class_number a.class; bytes = f })) s.depth c.args.self.now.pool.buffers (λ q high. cond-false _ _ _ (none_above (set_bits a.ports) q a.ports.within high))
    ∙ (λ i q. laid_in (on.0 i).1 (queue i) (record { number = s.next; class = (on.0 i).0; bytes = f }) q (s.port q)) in
    (λ i. record { slot = s.slot; next = accept.number i; rate = s.rate; depth = s.depth; port = ports i }) ∙ leaves_state (arrive_answer b s p f) here s _ on.1

pub returns-clause-addressed : goal.returns-clause-addressed
returns-clause-addressed g c = destination_low c.args.bytes.now (λ i. (c.type_inv.bytes i).fits)

pub returns-clause-answer : goal.returns-clause-answer
returns-clause-answer g c =
    let at = (goal.at.returns-clause-answer g c).In_ok-class in
    let f : List ℕ = c.args.bytes.now in
    let here : Arrived = record { number = (stands g at).next; class = class f; set = set_of (way_of (means g at) (stands g at) c.args.port f) } in
    let on = passed (arrive_checks (means g at) (stands g at) c.args.port f) [] _ _ here (told g at) in
    (λ i. accepted (record { number = c.accept-number.ensures.answer i; class = (on.0 i).0; set = (on.0 i).1 })) ∙ sym on.1
