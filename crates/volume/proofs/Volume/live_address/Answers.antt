-- `live_address` meets its contract.
use mathlib.Core.Path.{◌≡◌, ◌∙◌}
use native.Mathlib.Omega.{arith}
use Rattle.layout.specs.Reasons.{address_of}
use Rattle.volume.proofs.LiveCode.{counts_before, history_limits, rest_asks, rest_address, has_growth, asks_before, address_asks, address_read}
use Rattle.volume.proofs.SoundLaws.{sound_facts}
use Rattle.volume.proofs.Volume.live_address.Goals as goal
use Rattle.volume.proofs.Volume.live_address.Goals.{After-address_of-old}

pub history-requires : goal.history-requires
history-requires c = (sound_facts _ c.requires.sound_state).limits

pub address_of-requires : goal.address_of-requires
address_of-requires c =
    let e = c.history.ensures in
    rw (e.growths, e.counts, e.rows) (rest_asks c.args.self.now c.if-self-eq0.true _ c.requires.sound_state c.requires.x_bound).1

pub returns-then-self-eq0 : goal.returns-then-self-eq0
returns-then-self-eq0 c =
    let e = c.history.ensures in
    rw (e.growths, e.counts, e.rows) at c.address_of.ensures ∙ rest_address c.args.self.now c.if-self-eq0.true _

pub overflow_sub-self : goal.overflow_sub-self
overflow_sub-self c = omega (arith, has_growth _ c.if-self-eq0.false c.requires.sound_state)

pub history_to-requires : goal.history_to-requires
history_to-requires c = (asks_before c.args.self.now c.if-self-eq0.false c.requires.sound_state _ c.requires.x_bound).0

pub address_of-old-requires : goal.address_of-old-requires
address_of-old-requires c =
    let e = c.history_to.ensures in
    rw (e.growths, e.counts, e.rows) (asks_before c.args.self.now c.if-self-eq0.false c.requires.sound_state _ c.requires.x_bound).1

pub newest_growth-requires : goal.newest_growth-requires
newest_growth-requires c = (c.requires.sound_state, c.if-self-eq0.false)

-- its address before the growth
old_address : (c : After-address_of-old)
    → let v = c.args.self.now in c.address_of-old.result ≡ address_of v.rows (counts_before v) c.args.x.0
old_address c =
    let e = c.history_to.ensures in
    rw (e.growths, e.counts, e.rows) at c.address_of-old.ensures

pub address_from-requires : goal.address_from-requires
address_from-requires c =
    let s = c.requires.sound_state in
    let n = c.newest_growth.ensures in
    let old = old_address (goal.at.address_from-requires c).After-address_of-old in
    record {
      rows = (history_limits _ s).rows_most;
      before = address_asks _ c.if-self-eq0.false s c.newest_growth.result n.old n.added _ c.requires.x_bound _ old;
    }

pub returns : goal.returns
returns c =
    let n = c.newest_growth.ensures in
    let old = old_address (goal.at.returns c).After-address_of-old in
    rw c.stage-stage.ensures at c.address_from.ensures
    ∙ address_read _ c.if-self-eq0.false c.requires.sound_state c.newest_growth.result n.old n.added _ c.requires.x_bound _ old
