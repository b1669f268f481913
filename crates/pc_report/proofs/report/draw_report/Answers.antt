use Rattle.pc_report.proofs.Reports.{report_ok}
use Rattle.pc_report.proofs.report.draw_report.Goals as goal

pub returns : goal.returns
returns g c = report_ok c.write_picture.result c.args.report.now _ _ c.write_picture.ensures
