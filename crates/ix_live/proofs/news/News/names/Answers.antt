use Rattle.ix_live.proofs.news.News.names.Goals as goal

pub returns-clause-refused : goal.returns-clause-refused
returns-clause-refused c = rw (← c.self.view_is) (rw c.deref.ensures at c.names.ensures.refused)
