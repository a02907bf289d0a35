-- How a session ended, as a whole.
use Rattle.std.specs.Prelude.{◌≡◌, ◌⊎◌, ℕ, Bool, List, ◌++◌, MatchOption, Option, Some, None, codes}
use Rattle.bosh_base.specs.declared.reply.Refusal.{Refusal}
use Rattle.bosh_directing.specs.Acts.{past_of}
use Rattle.bosh_desk.specs.SiteFaults.{site_told}
use Rattle.bosh_options.specs.Words.{Tells}
use Rattle.bosh_ports.specs.Faults.{Rose}
use Rattle.bosh_report.specs.Refusal.{refusal_line}
use Rattle.bosh_program.specs.Headline.{Promises}
use Rattle.bosh_program.specs.declared.plain.Ended as ended
use Rattle.bosh_transcript.specs.Sessions.{IsSession}
use Rattle.bosh_transcript.specs.Writing.{WritesFront}
use Rattle.bosh_transcript.specs.declared.status.Status.TheVariants.{Memory, Unloaded, Usage}
use Rattle.bosh_world.specs.Loads.{IsNotSite, Loads}
use Rattle.bosh_world.specs.declared.fault.SiteFault.{SiteFault}
use Rattle.bosh_ports.specs.declared.keeper.Keeper as keeper
use Rattle.bosh_world.specs.declared.site.Site.{Site}
use Rattle.bosh_world.specs.declared.unloaded.Unloaded as unloaded

-- these bytes were written after others; or the output failed, and a front of them was
abbrev pub IsTextWritten : List ℕ → List ℕ → Option (List ℕ) → ℕ → ℕ → Type 0
IsTextWritten was text now faults_before faults_after =
    (now ≡ Some (was ++ text)) ⊎ (Rose faults_before faults_after × WritesFront was text now)

-- the line of a fault was written
abbrev pub IsLineWritten : {O : Type 0} → (O → Option (List ℕ)) → (O → ℕ) → SiteFault → O → O → Type 0
IsLineWritten written faults fault before after =
    (told : Refusal) × (site_told fault ≡ Some told)
    × ((was : List ℕ) → written before ≡ Some was →
    IsTextWritten was (refusal_line told) (written after) (faults before) (faults after))

-- A session over two keepers: over the site that they were loaded as, which it goes on with and gives back, as is promised of
-- its history; or they were not loaded, are given back, and why is written; or there was no memory for that, and nothing is written. Nothing
-- is read of the input without a site.
pub record IsPlain {I O K L : Type 0} {k : keeper.Ghosts K} {l : keeper.Ghosts L}
    (left : I → Option (List ℕ)) (read_faults : I → ℕ) (written : O → Option (List ℕ)) (write_faults : O → ℕ)
    (bodies : K → Option (List (List ℕ))) (faults : K → ℕ) (is_broken : K → Bool)
    (cloud_bodies : L → Option (List (List ℕ))) (cloud_faults : L → ℕ)
    (source_before source_after : I) (out_before out_after : O) (store : K) (cloud : L) (end : ended.Ended K L k l) : Type 0
  where
    pub loaded : (site : Site K L k l) → end.site ≡ Some site →
        (was : Site K L k l) × Loads bodies faults is_broken cloud_bodies cloud_faults store cloud was
        × IsSession left read_faults written write_faults source_before source_after out_before out_after end.status
        (past_of was) (past_of site) × (end.refused ≡ None) × Promises bodies cloud_bodies store cloud site
    pub not_loaded : (refused : unloaded.Unloaded K L) → end.refused ≡ Some refused →
        (end.status ≡ Unloaded) × (end.site ≡ None)
        × IsNotSite bodies faults is_broken cloud_bodies cloud_faults store cloud refused.store refused.cloud refused.fault
        × IsLineWritten written write_faults refused.fault out_before out_after
    pub memory : end.site ≡ None → end.refused ≡ None → (end.status ≡ Memory) × (out_after ≡ out_before)
    pub unread : end.site ≡ None → source_after ≡ source_before

-- the two keepers that were not loaded
abbrev pub stores_back : {K L : Type 0} → Option (unloaded.Unloaded K L) → Option (K × L)
stores_back (Some back) = Some (back.store, back.cloud)
stores_back None = None

-- the two keepers that a session leaves: those of its site, or those that were not loaded
abbrev pub stores_left : {K L : Type 0} {k : keeper.Ghosts K} {l : keeper.Ghosts L} →
    Option (Site K L k l) → Option (unloaded.Unloaded K L) → Option (K × L)
stores_left (Some site) refused = Some (site.book.journal.store.inner, site.cloud.store)
stores_left None refused = stores_back refused

-- The words of the command line are none that are known: nothing is read, and the usage is written.
pub record IsUsage {I O K L : Type 0} {k : keeper.Ghosts K} {l : keeper.Ghosts L}
    (written : O → Option (List ℕ)) (write_faults : O → ℕ) (source_before source_after : I) (out_before out_after : O)
    (end : ended.Ended K L k l) : Type 0 where
  pub status : end.status ≡ Usage
  pub unread : source_after ≡ source_before
  pub usage : (was : List ℕ) → written out_before ≡ Some was →
      IsTextWritten was (codes "usage: boshd [--threads=N]\n") (written out_after) (write_faults out_before)
      (write_faults out_after)
  pub no_site : end.site ≡ None
  pub none_refused : end.refused ≡ None

-- there was no memory to begin: nothing is read or written
pub record IsUnbegun {I O K L : Type 0} {k : keeper.Ghosts K} {l : keeper.Ghosts L}
    (source_before source_after : I) (out_before out_after : O) (end : ended.Ended K L k l) : Type 0 where
  pub status : end.status ≡ Memory
  pub unread : source_after ≡ source_before
  pub unwritten : out_after ≡ out_before
  pub no_site : end.site ≡ None
  pub none_refused : end.refused ≡ None

-- the words ask for a session, by so many threads, or are none of the command
pub record IsRunByWords {I O K L : Type 0} {k : keeper.Ghosts K} {l : keeper.Ghosts L}
    (left : I → Option (List ℕ)) (read_faults : I → ℕ) (written : O → Option (List ℕ)) (write_faults : O → ℕ)
    (bodies : K → Option (List (List ℕ))) (faults : K → ℕ) (is_broken : K → Bool)
    (cloud_bodies : L → Option (List (List ℕ))) (cloud_faults : L → ℕ) (words : List (List ℕ))
    (source_before source_after : I) (out_before out_after : O) (store : K) (cloud : L) (end : ended.Ended K L k l) : Type 0
  where
    pub threads : Option ℕ
    pub tells : Tells words threads
    pub ends : MatchOption threads (IsUsage written write_faults source_before source_after out_before out_after end)
        (λ count. IsPlain left read_faults written write_faults bodies faults is_broken cloud_bodies cloud_faults
        source_before source_after out_before out_after store cloud end)
