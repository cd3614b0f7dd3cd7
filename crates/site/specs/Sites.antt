-- A sealed site and what it says.
use Rattle.std.specs.Prelude.{Ok, Err, Result}
use Rattle.site.specs.declared.refusals.Refusal.{Refusal}
use Rattle.site.specs.declared.sealed.Site.{Site}
use Rattle.site.specs.Plans.{Plan, plan_of}

-- what a sealed site says
abbrev pub plan : Site → Plan
plan s = plan_of s.draft

-- what the site that was read says, or why there is none
abbrev pub told : Result Site Refusal → Result Plan Refusal
told (Ok s) = Ok (plan s)
told (Err e) = Err e
