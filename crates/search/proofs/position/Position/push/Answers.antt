use Rattle.std.proofs.Common.{◌/◌, ◌<◌, eqb, length, sym, refl, ap, ◌∙◌, arith}
use Rattle.std.proofs.lemmas.Bool.{eqb-true}
use Rattle.row.specs.View.{entries}
use Rattle.sets.specs.Members.{has, joined}
use Rattle.sets.proofs.Membership.{not_in}
use Rattle.route.proofs.Counts.{none_new, some_old}
use Rattle.search.proofs.Ties.{tied_more, fits}
use Rattle.search.proofs.position.Position.push.Goals as goal
use Rattle.search.proofs.position.Position.push.Goals.{then-e-ge2048-via-then-e-ge2048, then-e-ge2048-via-else-e-ge2048+then-len-ge512, then-e-ge2048-via-else-e-ge2048+else-len-ge512+then-contains}

pub returns-then-e-ge2048 : goal.returns-then-e-ge2048
returns-then-e-ge2048 c =
    let s = c.args.self.now in
    let k = c.args.e / 4 in (
      refl,
      λ new low short.
          elim c.then-e-ge2048.branch [
            | then-e-ge2048-via-then-e-ge2048 w ↦ omega (arith, w.if-e-ge2048.true)
            | then-e-ge2048-via-else-e-ge2048+then-len-ge512 w ↦ omega (arith, w.if-len-ge512.true, w.len.ensures.value)
            | then-e-ge2048-via-else-e-ge2048+else-len-ge512+then-contains w ↦
                let h = eqb-true (has s.on k) 1 (ap (λ n. eqb (has s.on n) 1) (sym c.component-component.ensures) ∙ sym w.contains.ensures ∙ w.if-contains.true) in
                let t = s.tied k in
                some_old (entries s.path) c.args.e (omega arith) new
          ],
    )

-- the component was not on the path
pub invariant_of-self : goal.invariant_of-self
invariant_of-self c =
    let s = c.args.self.now in
    let e = c.args.e in
    let short : length (entries s.path) < 512 = omega (arith, c.len.ensures.value) in
    let out = not_in s.on (e / 4) (ap (λ n. eqb (has s.on n) 1) (sym c.component-component.ensures) ∙ sym c.contains.ensures ∙ c.if-contains.false) in
    let grown = c.push.ensures.grown (c.push.ensures.fits ∙ fits (length (entries s.path)) e short c.if-e-ge2048.false) in
    record { tied = tied_more s.on c.insert.new.self (entries s.path) (entries c.push.new.self) e s.tied out c.if-e-ge2048.false grown (λ k. c.insert.ensures k ∙ ap (λ n. joined s.on n k) c.component-component.ensures) }

pub returns : goal.returns
returns c =
    let s = c.args.self.now in
    let e = c.args.e in
    let short : length (entries s.path) < 512 = omega (arith, c.len.ensures.value) in
    let out = not_in s.on (e / 4) (ap (λ n. eqb (has s.on n) 1) (sym c.component-component.ensures) ∙ sym c.contains.ensures ∙ c.if-contains.false) in
    (c.push.ensures.grown (c.push.ensures.fits ∙ fits (length (entries s.path)) e short c.if-e-ge2048.false), none_new (entries s.path) e (sym (s.tied (e / 4)) ∙ out), c.if-e-ge2048.false)
