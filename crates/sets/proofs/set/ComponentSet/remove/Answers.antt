use Rattle.std.proofs.Common.{sym, ◌∙◌}
use Rattle.sets.proofs.Membership.{has_past, not_in, left_none}
use Rattle.sets.proofs.set.ComponentSet.remove.Goals as goal
use Rattle.sets.proofs.set.ComponentSet.remove.Goals.{else-component-lt512-via-then-component-lt512+else-contains, else-component-lt512-via-else-component-lt512}

pub returns-else-component-lt512 : goal.returns-else-component-lt512
returns-else-component-lt512 c =
    let s = c.args.self.now in
    let k = c.args.component in
    elim c.else-component-lt512.branch [
      | else-component-lt512-via-then-component-lt512+else-contains w ↦ left_none s k (not_in s k (sym w.contains.ensures ∙ w.if-contains.false))
      | else-component-lt512-via-else-component-lt512 w ↦ left_none s k (has_past s k w.if-component-lt512.false)
    ]
