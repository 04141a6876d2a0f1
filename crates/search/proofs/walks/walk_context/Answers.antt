use Rattle.search.proofs.Valued.{valued_by, shown_by}
use Rattle.search.proofs.walks.walk_context.Goals as goal

pub returns : goal.returns
returns g c =
    let e = c.walk_needed.ensures in
    let p = c.requires.plan in
    record {
      values = valued_by _ _ p _ _ _ _ _ (rw (c.needed.ensures.value, c.network.ensures.value) at e.plain)
          (rw (c.needed.ensures.value, c.network.ensures.value, c.target.ensures.value) at e.turned);
      shown = shown_by _ _ p _ _ _ _ (rw (c.needed.ensures.value, c.network.ensures.value) at e.admits)
          (rw (c.needed.ensures.value, c.network.ensures.value, c.target.ensures.value) at e.inverted);
    }
