use Rattle.std.proofs.Common.{◌≡◌, ℕ, ◌+◌, ◌-◌, Bool, List, take, not, eqb, sym, refl, ap, ◌∙◌, rules, arith}
use denote.Enum.Bare.{sameb}
use mathlib.Core.Bool.{beq}
use Rattle.std.proofs.lemmas.List.{take_rest}
use Rattle.std.specs.Option.{option_map}
use Rattle.records.specs.Format.{Asked, asks, cut_at, kind_number}
use Rattle.records.specs.contracts.kinds.Kind.{the_type}
use Rattle.records.specs.declared.kinds.Kind.{Kind}
use Rattle.records.specs.declared.kinds.Kind.TheVariants.{Opening, Arrive, Tick, Send, Clear}
use Rattle.records.proofs.Faults.{Stands, by_body, cut_off, other_kind, other_version, out_of_place, small, too_short}
use Rattle.records.proofs.cursors.Cursor.read.Goals as goal
use Rattle.records.proofs.cursors.Cursor.read.Goals.{After-read, In_ok-get, in_default-via-then-branch-lt4, in_default-via-else-branch-lt4+in_default-1}

-- the derived test, by the numbers of the kinds
is_opening : (kind : Kind) → sameb the_type kind Opening ≡ eqb (kind_number kind) 0
is_opening Opening = refl
is_opening Arrive = refl
is_opening Tick = refl
is_opening Send = refl
is_opening Clear = refl

by_number : (kind : Kind) (place : ℕ) {same : Bool} → same ≡ sameb the_type kind Opening → not (beq (eqb (kind_number kind) 0) (eqb place 0)) ≡ not (beq same (eqb place 0))
by_number kind place is = ap (λ o. not (beq o (eqb place 0))) (sym (is ∙ is_opening kind))

-- what stands from the place on
seen : (c : In_ok-get) → Stands c.args.self.now.input.now c.args.self.now.place c.in_ok-get.field-0.now
seen c = record { from = c.in_ok-get.ensures.lookup.0.2 ∙ take_rest c.args.self.now.input.now c.args.self.now.place }

pub returns-in_default : goal.returns-in_default
returns-in_default c =
    let stands = seen (goal.at.returns-in_default c).In_ok-get in
    elim c.in_default.branch [
      | in_default-via-then-branch-lt4 w ↦ too_short stands (search rules)
      | in_default-via-else-branch-lt4+in_default-1 w ↦ other_version stands (search rules)
    ]

pub returns-in_err-checked_sub : goal.returns-in_err-checked_sub
returns-in_err-checked_sub c =
    rw c.from_residual-in_err-checked_sub.ensures (small (seen (goal.at.returns-in_err-checked_sub c).In_ok-get) (c.from-length.ensures ∙ c.from_be_bytes.ensures) (omega (arith, c.in_err-checked_sub.ensures)))

pub returns-in_err-body : goal.returns-in_err-body
returns-in_err-body c =
    let stands = seen (goal.at.returns-in_err-body c).In_ok-get in
    rw c.from_residual-in_err-body.ensures (cut_off stands (c.from-length.ensures ∙ c.from_be_bytes.ensures) (omega arith) (omega (arith, c.in_err-body.ensures.lookup.0)))

pub returns-in_err-kind : goal.returns-in_err-kind
returns-in_err-kind c =
    rw c.from_residual-in_err-kind.ensures (other_kind (seen (goal.at.returns-in_err-kind c).In_ok-get) c.in_err-kind.ensures)

pub returns-then-eq-self : goal.returns-then-eq-self
returns-then-eq-self c =
    out_of_place (seen (goal.at.returns-then-eq-self c).In_ok-get) (kind_number c.in_ok-kind.kind) c.in_ok-kind.ensures (by_number c.in_ok-kind.kind c.args.self.now.place c.eq.ensures ∙ c.if-eq-self.true)

-- what the body says of the record is all that is left to say
judged : (c : After-read) → Stands c.args.self.now.input.now c.args.self.now.place c.in_ok-get.field-0.now → option_map {U = Asked × ℕ} (λ a. (a, c.args.self.now.place + 2 + c.from-length.result)) (option_map asks c.read.result) ≡ cut_at c.args.self.now.input.now c.args.self.now.place
judged c stands =
    let s : List ℕ = c.in_ok-get.field-0.now in
    let body = c.in_ok-body.ensures.lookup.0 in
    let counted = c.in_ok-checked_sub.ensures in
    let n : c.in_ok-checked_sub.field-0 - 0 ≡ c.from-length.result - 2 = omega (arith, counted) in
    by_body stands (c.from-length.ensures ∙ c.from_be_bytes.ensures) (kind_number c.in_ok-kind.kind) c.in_ok-body.body.now (option_map asks c.read.result) (search rules) (omega (arith, counted)) (omega (arith, body.1, counted)) c.in_ok-kind.ensures (by_number c.in_ok-kind.kind c.args.self.now.place c.eq.ensures ∙ c.if-eq-self.false) (body.2 ∙ (λ j. take (n j) (take_rest s 4 j))) c.read.ensures

pub returns : goal.returns
returns c =
    ap (λ o. option_map {U = Asked × ℕ} (λ a. (a, c.args.self.now.place + 2 + c.from-length.result)) (option_map asks o)) (sym c.in_ok-record.was) ∙ judged (goal.at.returns c).After-read (seen (goal.at.returns c).In_ok-get)

pub returns-in_err-record : goal.returns-in_err-record
returns-in_err-record c =
    let at = goal.at.returns-in_err-record c in
    rw c.from_residual-in_err-record.ensures (ap (λ o. option_map {U = Asked × ℕ} (λ a. (a, c.args.self.now.place + 2 + c.from-length.result)) (option_map asks o)) (sym c.in_err-record.was) ∙ judged at.After-read (seen at.In_ok-get))
