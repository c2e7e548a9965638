use Rattle.check_simple.proofs.KindsAndTypes.{differs-unasked, differs-asked}
use Rattle.check_simple.proofs.differs.Goals as goal

pub returns-then-w-eq0 : goal.returns-then-w-eq0
returns-then-w-eq0 c = differs-asked _ _ c.if-w-eq0.true _ c.type_named.ensures _ c.ne.ensures

pub returns-else-w-eq0 : goal.returns-else-w-eq0
returns-else-w-eq0 c = differs-unasked _ _ c.if-w-eq0.false
