-- What writing a report leaves where it fails.
use Rattle.std.specs.Prelude.{◌≡◌, ℕ, ◌≤◌, List, Option, length, take}
use Rattle.std.specs.Io.KnownBytes.{Keeps, Appends}
use Rattle.mf_io.specs.Faults.{HasRisen}
use Rattle.mf_report.specs.declared.writing.ReportFault.{ReportFault}
use Rattle.mf_report.specs.declared.writing.ReportFault.TheVariants as fault

-- Sink: a write failed, after a front of the text was written. Memory: nothing was written, and no write failed.
abbrev pub Leaves : ReportFault → List ℕ → Option (List ℕ) → Option (List ℕ) → ℕ → ℕ → Type 0
Leaves fault.Sink text written written_now faults faults_now =
    HasRisen faults faults_now × (n : ℕ) × (n ≤ length text) × Appends written written_now (take n text)
Leaves fault.Memory text written written_now faults faults_now =
    Keeps written written_now × (faults_now ≡ faults)
