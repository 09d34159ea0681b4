use Rattle.std.proofs.Common.{ltb, length, sym, refl, ap, ◌∙◌, subst}
use Rattle.std.proofs.lemmas.Bool.{lt-ltb}
use Rattle.frame.specs.Numbers.{cell_number}
use Rattle.buffers.proofs.Placing.{sound_placed, view_kept}
use Rattle.buffers.proofs.Soundness.{Sound, put_other, put_same}
use Rattle.buffers.specs.Boards.{lines}
use Rattle.buffers.specs.Entries.{egress_of}
use Rattle.buffers.specs.Holdings.{frame_at}
use Rattle.buffers.proofs.buffers.Buffers.place.Goals as goal

pub invariant_of-self : goal.invariant_of-self
invariant_of-self c =
    let b = c.args.self.now in
    subst (λ frames. Sound (lines b.board) frames b.counts) (sym c.place.ensures.state) (sound_placed b (cell_number c.args.cell) _ c.requires.unused)

pub returns-clause-state : goal.returns-clause-state
returns-clause-state c d =
    let b = c.args.self.now in
    ap (λ frames. egress_of d frames (lines b.board)) c.place.ensures.state ∙ view_kept b (cell_number c.args.cell) _ c.requires.unused d

pub returns-clause-frame : goal.returns-clause-frame
returns-clause-frame c =
    let cell = cell_number c.args.cell in
    ap (λ frames. frames cell) c.place.ensures.state ∙ put_same (frame_at c.args.self.now) cell _ cell refl

pub returns-clause-others : goal.returns-clause-others
returns-clause-others c q other =
    ap (λ frames. (frames q).number) c.place.ensures.state ∙ ap (λ f. f.number) (put_other (frame_at c.args.self.now) (cell_number c.args.cell) _ q other)

pub returns-clause-filled : goal.returns-clause-filled
returns-clause-filled c =
    let cell = cell_number c.args.cell in
    ap (λ frames. ltb 0 (length (frames cell).bytes)) c.place.ensures.state
    ∙ ap (λ f. ltb 0 (length f.bytes)) (put_same (frame_at c.args.self.now) cell _ cell refl)
    ∙ lt-ltb 0 _ c.requires.some
