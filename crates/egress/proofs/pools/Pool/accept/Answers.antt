use Rattle.std.proofs.Common.{◌≡◌, ℕ, ◌<◌, false, Result, Ok, sym, ap, ◌∙◌, subst}
use Rattle.buffers.specs.Holdings.{free}
use Rattle.cells.specs.Marks.{free_within}
use Rattle.cells.specs.Stores.{Granted}
use Rattle.frame.specs.Numbers.{cell_number, set_bits, queue_number}
use Rattle.frame.specs.Refusals.{told}
use Rattle.frame.specs.declared.numbers.Cell.{Cell}
use Rattle.frame.specs.declared.refusals.Refusal.{Refusal}
use Rattle.rules.specs.Copies.{put}
use Rattle.egress.proofs.Cells.{agree_granted}
use Rattle.egress.proofs.Contents.{let_in_contents}
use Rattle.egress.proofs.Laid.{some_port}
use Rattle.egress.specs.Ports.{each_port, laid_in}
use Rattle.egress.proofs.pools.Pool.accept.Goals as goal
use Rattle.egress.proofs.pools.Pool.accept.Goals.{After-lay_copies}

-- the cell that was granted, which was free
granted : (g : _) (c : After-lay_copies g) → Granted (g.S.Store.marks c.args.self.now.store) (told cell_number (Ok c.unwrap-cell.result)) (g.S.Store.marks c.grant.new.self)
granted g c = subst (λ (r : Result Cell Refusal). Granted (g.S.Store.marks c.args.self.now.store) (told cell_number r) (g.S.Store.marks c.grant.new.self)) c.unwrap-cell.ensures c.grant.ensures.answer

-- and is not free any more, since the frame goes to some port
taken : (g : _) (c : After-lay_copies g) → free c.lay_copies.new.buffers ≡ put (free c.args.self.now.buffers) (cell_number c.unwrap-cell.result) false
taken g c =
    let some = some_port (set_bits c.args.ports) c.requires.ports c.args.ports.within in
    c.lay_copies.ensures.cells some.0 some.1 some.2 ∙ ap (λ h. put h (cell_number c.unwrap-cell.result) false) c.place-number.ensures.cells

pub invariant_of-self : goal.invariant_of-self
invariant_of-self g c =
    let pool = c.args.self.now in
    record { agree = agree_granted (g.S.Store.marks pool.store) _ (free pool.buffers) _ _ (free_within _ _ (granted g c).0) pool.agree (granted g c).1 (taken g c) }

pub returns-clause-state : goal.returns-clause-state
returns-clause-state g c d =
    c.lay_copies.ensures.state d
    ∙ (λ i. each_port (laid_in (set_bits c.args.ports) (queue_number c.args.queue) (c.place-number.ensures.frame i)) 4 (c.place-number.ensures.state d i))

pub returns-clause-contents : goal.returns-clause-contents
returns-clause-contents g c =
    let pool = c.args.self.now in
    let cell : ℕ = (cell_number c.unwrap-cell.result) in
    let place = c.place-number.ensures in
    let frames = c.lay_copies.ensures.frames in
    let grant = granted g (goal.at.returns-clause-contents g c).After-lay_copies in
    let low : cell < 32 = c.unwrap-cell.result.within in
    let_in_contents pool.buffers c.lay_copies.new.buffers cell _ low (sym (pool.agree cell low) ∙ grant.0) (taken g (goal.at.returns-clause-contents g c).After-lay_copies) (ap (λ h. (h cell).number) frames ∙ ap (λ x. x.number) place.frame) (λ q other. ap (λ h. (h q).number) frames ∙ place.others q other)
