-- `report::brn_file::post_notices` meets its contract.
use Rattle.report.proofs.BrnLaws.{fits-within, too_small}
use Rattle.report.proofs.brn_file.post_notices.Goals as goal

pub write_notices-requires : goal.write_notices-requires
write_notices-requires c = fits-within _ _ _ c.refusal.ensures c.in-None.is

pub returns-in-Some : goal.returns-in-Some
returns-in-Some c = too_small _ _ _ _ c.refusal.ensures c.in-Some.is
