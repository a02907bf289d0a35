use Rattle.std.proofs.Common.{◌∙◌, ap, sym, is_some, true}
use Rattle.std.specs.List.{list_any}
use Rattle.std.specs.Str.{bytes_eq}
use Rattle.bosh_release_listing.specs.declared.listing.Stamp.{Stamp}
use Rattle.bosh_release_files.specs.Files.{after}
use Rattle.bosh_release_files.specs.Pattern.{lies_in, matches}
use Rattle.bosh_release_files.specs.Sources.{path_of}
use Rattle.bosh_release_files.specs.declared.pattern.Form.TheVariants.{Every, Below, In, Exact}
use Rattle.bosh_release_files.proofs.IndexLemmas.{form_matches}
use Rattle.bosh_release_files.proofs.SpanLemmas.{span_matches}
use Rattle.bosh_release_files.proofs.sources.Sources.matches.Goals as goal

pub returns-in-Every : goal.returns-in-Every
returns-in-Every c =
    c.has_some.ensures
    ∙ ap (λ files. list_any (λ (file : Stamp). true) files) c.deref.ensures.value
    ∙ form_matches c.self.inside.files.items c.args.self.now Every c.self.view_is
    ∙ ap (matches c.args.self.now) (sym c.in-Every.is)

pub returns-in-Below : goal.returns-in-Below
returns-in-Below c =
    span_matches c.deref-in-Below.result.now (λ path. is_some (after c.as_slice.result.now path)) c.span_below-span.result c.span_below-span.ensures
    ∙ ap (λ files. list_any (λ (file : Stamp). is_some (after c.as_slice.result.now (path_of file))) files) c.deref-in-Below.ensures.value
    ∙ ap (λ front. list_any (λ file. is_some (after front (path_of file))) c.self.inside.files.items) c.as_slice.ensures
    ∙ form_matches c.self.inside.files.items c.args.self.now (Below c.in-Below.front) c.self.view_is
    ∙ ap (matches c.args.self.now) (sym c.in-Below.is)

pub returns-in-In : goal.returns-in-In
returns-in-In c =
    c.contains.ensures
    ∙ c.self.invariant.folders c.as_slice-in-In.result.now
    ∙ ap (λ folder. list_any (λ file. lies_in folder (path_of file)) c.self.inside.files.items) c.as_slice-in-In.ensures
    ∙ form_matches c.self.inside.files.items c.args.self.now (In c.in-In.folder) c.self.view_is
    ∙ ap (matches c.args.self.now) (sym c.in-In.is)

pub returns-in-Exact : goal.returns-in-Exact
returns-in-Exact c =
    c.contains-in-Exact.ensures
    ∙ c.self.invariant.paths c.as_slice-in-Exact.result.now
    ∙ ap (λ text. list_any (λ file. bytes_eq text (path_of file)) c.self.inside.files.items) c.as_slice-in-Exact.ensures
    ∙ form_matches c.self.inside.files.items c.args.self.now (Exact c.in-Exact.text) c.self.view_is
    ∙ ap (matches c.args.self.now) (sym c.in-Exact.is)
