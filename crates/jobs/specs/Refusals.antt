-- A job's fault as a refusal, and as it is printed.
use Rattle.std.specs.Prelude.{ℕ, List, ◌++◌, Some, None, Option, codes, decimal}
use Rattle.jobs.specs.Faults.{job_number, job_place}
use Rattle.jobs.specs.declared.fault.JobFault.{JobFault}
use Rattle.jobs.specs.declared.refusal.Refusal.{Refusal}

-- 0 stands where no place is.
abbrev pub place_or_0 : Option ℕ → ℕ
place_or_0 None = 0
place_or_0 (Some p) = p

-- A refusal has a number.
abbrev pub refusal_of : Option ℕ → Option ℕ → Option Refusal
refusal_of None place = None
refusal_of (Some n) place = Some (record { number = n; place = place_or_0 place })

abbrev pub job_refusal : JobFault → Option Refusal
job_refusal f = refusal_of (job_number f) (job_place f)

-- A refusal as it is printed.
abbrev pub refusal_text : Refusal → List ℕ
refusal_text r = codes "refused " ++ (decimal r.number ++ (codes " " ++ decimal r.place))
