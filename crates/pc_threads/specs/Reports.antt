-- What the report of a run tells.
use Rattle.std.specs.Prelude.{◌≡◌, pos, List, length, nat_abs, sum_by, Result, Ok, Err}
use Rattle.pc_kernel.specs.Reads.{seen}
use Rattle.pc_view.specs.declared.view.View.{View}
use Rattle.pc_threads.specs.declared.book.settling.RunFault.{RunFault}
use Rattle.pc_threads.specs.declared.report.LoadReport.{LoadReport}
use Rattle.pc_threads.specs.declared.report.row.Row.{Row}
use Rattle.pc_threads.specs.Pages.{Pages, run_of}
use Rattle.pc_threads.specs.Settings.{Settings, messages_in, ran_in, steps_in}
use Rattle.pc_threads.specs.Settling.{IsViewOfAll}
use Rattle.pc_threads.specs.Totals.{committed_by, consumed_by, in_all, limits_on, ran_by, taken_over_by, told_by}

-- its numbers are those of its book: the known threads, and what the listed calls come to; its view is that of
-- all messages
pub record TellsItsBook (report : LoadReport) : Type 0 where
  pub threads : report.threads ≡ (seen report.book.kernel).threads
  pub messages : report.messages ≡ in_all told_by report.book.calls
  pub commits : report.commits ≡ in_all committed_by report.book.calls
  pub ran : report.ran ≡ in_all ran_by report.book.calls
  pub view : IsViewOfAll (run_of report.book) report.view

-- what the agents counted adds up to what the book lists
pub record AddsUp (report : LoadReport) : Type 0 where
  pub commits : sum_by (λ row. row.commits) report.rows.items ≡ in_all committed_by report.book.calls
  pub steals : sum_by (λ row. row.steals) report.rows.items ≡ in_all taken_over_by report.book.calls
  pub taken : sum_by (λ row. row.taken) report.rows.items ≡ in_all consumed_by report.book.calls

-- all was done that the settings ask for, on so many CPUs
pub record DoesAll (settings : Settings) (report : LoadReport) : Type 0 where
  pub limits : report.book.kernel.limits ≡ limits_on (nat_abs settings.cpus)
  pub threads : report.threads ≡ length settings.threads
  pub messages : report.messages ≡ messages_in settings.threads
  pub commits : report.commits ≡ steps_in settings.threads
  pub ran : report.ran ≡ ran_in settings.threads

-- the book lists all that the settings ask for, on so many CPUs: the threads that are known, their messages, the
-- commits and the ticks are as many as the settings' threads, with their steps, come to
pub record ListsAll (settings : Settings) (book : Pages) : Type 0 where
  pub limits : book.kernel.limits ≡ limits_on (nat_abs settings.cpus)
  pub threads : (seen book.kernel).threads ≡ length settings.threads
  pub messages : in_all told_by book.calls ≡ messages_in settings.threads
  pub commits : in_all committed_by book.calls ≡ steps_in settings.threads
  pub ran : in_all ran_by book.calls ≡ ran_in settings.threads

-- what the agents counted adds up to what the book lists
pub record AreCountsOf (book : Pages) (rows : List Row) : Type 0 where
  pub commits : sum_by (λ row. row.commits) rows ≡ in_all committed_by book.calls
  pub steals : sum_by (λ row. row.steals) rows ≡ in_all taken_over_by book.calls
  pub taken : sum_by (λ row. row.taken) rows ≡ in_all consumed_by book.calls

-- the book lists all that the settings ask for, and there is a row for each CPU, which together count what it lists
pub record IsAccountedFor (settings : Settings) (book : Pages) (rows : List Row) : Type 0 where
  pub lists : ListsAll settings book
  pub counts : AreCountsOf book rows
  pub each : pos (length rows) ≡ settings.cpus

-- the view of a report, or why there is none
abbrev pub view_in : Result LoadReport RunFault → Result View RunFault
view_in (Ok report) = Ok report.view
view_in (Err fault) = Err fault
