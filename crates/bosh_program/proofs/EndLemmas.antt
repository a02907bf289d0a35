-- How a session ends, as a whole.
use Rattle.std.proofs.Common.{◌≡◌, ℕ, Bool, List, ◌++◌, Option, Some, None, Result, Ok, Err, IfErr, OnOk, inl, inr, refl, sym, subst}
use Rattle.std.specs.Prelude.{IfSome}
use Rattle.bosh_base.specs.declared.reply.Refusal.{Refusal}
use Rattle.bosh_directing.specs.Acts.{past_of}
use Rattle.bosh_desk.specs.SiteFaults.{site_told}
use Rattle.bosh_ports.specs.Faults.{Rose}
use Rattle.bosh_ports.specs.declared.keeper.Keeper as keeper
use Rattle.bosh_report.specs.Refusal.{refusal_line}
use Rattle.bosh_program.specs.Ends.{IsLineWritten, IsPlain, IsTextWritten}
use Rattle.bosh_program.specs.Headline.{Promises}
use Rattle.bosh_program.specs.declared.plain.Ended as ended
use Rattle.bosh_transcript.specs.Sessions.{IsSession}
use Rattle.bosh_transcript.specs.Writing.{WritesFront}
use Rattle.bosh_transcript.specs.declared.status.Status.{Status}
use Rattle.bosh_transcript.specs.declared.status.Status.TheVariants.{Memory, Sink, Unloaded}
use Rattle.bosh_world.specs.Loads.{IsNotSite, Loads}
use Rattle.bosh_world.specs.declared.fault.SiteFault.{SiteFault}
use Rattle.bosh_world.specs.declared.site.Site.{Site}
use Rattle.bosh_world.specs.declared.unloaded.Unloaded as unloaded

some_same : {A : Type 0} (it : Option A) (a b : A) → it ≡ Some a → it ≡ Some b → a ≡ b
some_same it a b is same = cc

not_none : {A : Type 0} (it : Option A) (a : A) → it ≡ Some a → it ≡ None → ⊥
not_none it a is none = cc

if_some_at : {A : Type 0} (P : A → Type 0) (it : Option A) (a : A) → it ≡ Some a → IfSome it P → P a
if_some_at {A} P it a is x = subst (λ (o : Option A). IfSome o P) is x

-- a text was written whole, or the output failed
pub text_written : {O : Type 0} (written : O → Option (List ℕ)) (faults : O → ℕ) (text : List ℕ) (o p : O)
    (result : Result (Unit {0}) Status) → OnOk result ((was : List ℕ) → written o ≡ Some was → written p ≡ Some (was ++ text)) →
    IfErr result (λ status. (status ≡ Sink) × Rose (faults o) (faults p)) →
    ((was : List ℕ) → written o ≡ Some was → WritesFront was text (written p)) →
    (was : List ℕ) → written o ≡ Some was → IsTextWritten was text (written p) (faults o) (faults p)
text_written written faults text o p (Ok done) all failed front was before = inl (all was before)
text_written written faults text o p (Err status) all failed front was before = inr (failed.1, front was before)

-- the line of a fault was
pub line_written : {O : Type 0} (written : O → Option (List ℕ)) (faults : O → ℕ) (fault : SiteFault) (told : Refusal)
    (text : List ℕ) (o p : O) (result : Result (Unit {0}) Status) → site_told fault ≡ Some told → text ≡ refusal_line told →
    OnOk result ((was : List ℕ) → written o ≡ Some was → written p ≡ Some (was ++ text)) →
    IfErr result (λ status. (status ≡ Sink) × Rose (faults o) (faults p)) →
    ((was : List ℕ) → written o ≡ Some was → WritesFront was text (written p)) →
    IsLineWritten written faults fault o p
line_written written faults fault told text o p result is line all failed front = (
  told,
  is,
  λ was before.
      subst (λ (bytes : List ℕ). IsTextWritten was bytes (written p) (faults o) (faults p)) line
      (text_written written faults text o p result all failed front was before),
)

-- a session over a site that was loaded
pub plain_loaded : {I O K L : Type 0} {k : keeper.Ghosts K} {l : keeper.Ghosts L}
    (left : I → Option (List ℕ)) (read_faults : I → ℕ) (written : O → Option (List ℕ)) (write_faults : O → ℕ)
    (bodies : K → Option (List (List ℕ))) (faults : K → ℕ) (is_broken : K → Bool)
    (cloud_bodies : L → Option (List (List ℕ))) (cloud_faults : L → ℕ)
    (source_before source_after : I) (out_before out_after : O) (store : K) (cloud : L) (was now : Site K L k l)
    (status : Status) (end : ended.Ended K L k l) → Loads bodies faults is_broken cloud_bodies cloud_faults store cloud was →
    IsSession left read_faults written write_faults source_before source_after out_before out_after status (past_of was)
    (past_of now) → Promises bodies cloud_bodies store cloud now →
    end.status ≡ status → end.site ≡ Some now → end.refused ≡ None →
    IsPlain left read_faults written write_faults bodies faults is_broken cloud_bodies cloud_faults source_before
    source_after out_before out_after store cloud end
plain_loaded {I} {O} {K} {L} {k} {l} left read_faults written write_faults bodies faults is_broken cloud_bodies cloud_faults source_before source_after out_before out_after store cloud was now status end loads session promises ends there none = record {
  loaded = λ site is.
      let same : now ≡ site = some_same end.site now site there is in (
        was,
        loads,
        subst (λ (s : Status). IsSession left read_faults written write_faults source_before source_after out_before out_after s
            (past_of was) (past_of site)) (sym ends)
            (subst (λ (s : Site K L k l). IsSession left read_faults written write_faults source_before source_after out_before
            out_after status (past_of was) (past_of s)) same session),
        none,
        subst (λ (s : Site K L k l). Promises bodies cloud_bodies store cloud s) same promises,
      );
  not_loaded = λ refused is. absurd (not_none end.refused refused is none);
  memory = λ no_site no_refused. absurd (not_none end.site now there no_site);
  unread = λ no_site. absurd (not_none end.site now there no_site);
}

-- one over keepers that were not
pub plain_unloaded : {I O K L : Type 0} {k : keeper.Ghosts K} {l : keeper.Ghosts L}
    (left : I → Option (List ℕ)) (read_faults : I → ℕ) (written : O → Option (List ℕ)) (write_faults : O → ℕ)
    (bodies : K → Option (List (List ℕ))) (faults : K → ℕ) (is_broken : K → Bool)
    (cloud_bodies : L → Option (List (List ℕ))) (cloud_faults : L → ℕ)
    (source : I) (out_before out_after : O) (store : K) (cloud : L) (back : unloaded.Unloaded K L) (end : ended.Ended K L k l) →
    IsNotSite bodies faults is_broken cloud_bodies cloud_faults store cloud back.store back.cloud back.fault →
    end.site ≡ None →
    IfSome end.refused (λ refused. (refused ≡ back) × (end.status ≡ Unloaded)
    × IsLineWritten written write_faults back.fault out_before out_after) →
    (end.refused ≡ None → (end.status ≡ Memory) × (out_after ≡ out_before)) →
    IsPlain left read_faults written write_faults bodies faults is_broken cloud_bodies cloud_faults source source out_before
    out_after store cloud end
plain_unloaded {I} {O} {K} {L} {k} {l} left read_faults written write_faults bodies faults is_broken cloud_bodies cloud_faults source out_before out_after store cloud back end not none told memory = record {
  loaded = λ site is. absurd (not_none end.site site is none);
  not_loaded = λ refused is.
      let here : (refused ≡ back) × (end.status ≡ Unloaded) × IsLineWritten written write_faults back.fault out_before out_after =
      if_some_at
      (λ (refused : unloaded.Unloaded K L). (refused ≡ back) × (end.status ≡ Unloaded)
      × IsLineWritten written write_faults back.fault out_before out_after) end.refused refused is told in (
        here.1,
        none,
        subst (λ (b : unloaded.Unloaded K L). IsNotSite bodies faults is_broken cloud_bodies cloud_faults store cloud b.store
            b.cloud b.fault) (sym here.0) not,
        subst (λ (b : unloaded.Unloaded K L). IsLineWritten written write_faults b.fault out_before out_after) (sym here.0)
            here.2,
      );
  memory = λ no_site no_refused. memory no_refused;
  unread = λ no_site. refl;
}
