use Rattle.group_locals.proofs.News.{news_fit, news_hold}
use Rattle.group_locals.proofs.morsels.new_locals.Goals as goal

pub returns-clause-fit : goal.returns-clause-fit
returns-clause-fit g c = news_fit g.R.Stated.shape g.R.Stated.holds c.args.grouper.now c.args.reductions.now c.loop-state.locals.items c.loop-state.invariant.new

pub returns-clause-new : goal.returns-clause-new
returns-clause-new g c = news_hold g.R.Stated.shape g.R.Stated.holds c.args.grouper.now c.args.reductions.now c.loop-state.locals.items c.loop-state.invariant.new
