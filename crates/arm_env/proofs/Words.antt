-- The words of the code are their own characters.
use Rattle.std.proofs.Common.{◌≡◌, codes, refl}
use Rattle.std.specs.Str.{chars}

pub word_type : chars (codes "type") ≡ codes "type"
unfolding chars
word_type = refl

pub word_value : chars (codes "value") ≡ codes "value"
unfolding chars
word_value = refl

pub word_outputs : chars (codes "outputs") ≡ codes "outputs"
unfolding chars
word_outputs = refl

pub word_properties : chars (codes "properties") ≡ codes "properties"
unfolding chars
word_properties = refl

pub word_Full : chars (codes "Full") ≡ codes "Full"
unfolding chars
word_Full = refl

pub word_id : chars (codes "id") ≡ codes "id"
unfolding chars
word_id = refl

pub word_location : chars (codes "location") ≡ codes "location"
unfolding chars
word_location = refl

pub word_name : chars (codes "name") ≡ codes "name"
unfolding chars
word_name = refl

pub word_provisioningState : chars (codes "provisioningState") ≡ codes "provisioningState"
unfolding chars
word_provisioningState = refl

pub word_Succeeded : chars (codes "Succeeded") ≡ codes "Succeeded"
unfolding chars
word_Succeeded = refl

pub word_tags : chars (codes "tags") ≡ codes "tags"
unfolding chars
word_tags = refl

pub word_subscriptionId : chars (codes "subscriptionId") ≡ codes "subscriptionId"
unfolding chars
word_subscriptionId = refl

pub word_copy : chars (codes "copy") ≡ codes "copy"
unfolding chars
word_copy = refl

pub word_count : chars (codes "count") ≡ codes "count"
unfolding chars
word_count = refl

pub word_input : chars (codes "input") ≡ codes "input"
unfolding chars
word_input = refl

pub word_if : chars (codes "if") ≡ codes "if"
unfolding chars
word_if = refl

pub word_and : chars (codes "and") ≡ codes "and"
unfolding chars
word_and = refl

pub word_or : chars (codes "or") ≡ codes "or"
unfolding chars
word_or = refl

pub word_coalesce : chars (codes "coalesce") ≡ codes "coalesce"
unfolding chars
word_coalesce = refl

pub word_parameters : chars (codes "parameters") ≡ codes "parameters"
unfolding chars
word_parameters = refl

pub word_variables : chars (codes "variables") ≡ codes "variables"
unfolding chars
word_variables = refl

pub word_reference : chars (codes "reference") ≡ codes "reference"
unfolding chars
word_reference = refl

pub word_copyIndex : chars (codes "copyIndex") ≡ codes "copyIndex"
unfolding chars
word_copyIndex = refl

pub word_resourceId : chars (codes "resourceId") ≡ codes "resourceId"
unfolding chars
word_resourceId = refl

pub word_subscriptionResourceId : chars (codes "subscriptionResourceId")
    ≡ codes "subscriptionResourceId"
unfolding chars
word_subscriptionResourceId = refl

pub word_resourceGroup : chars (codes "resourceGroup") ≡ codes "resourceGroup"
unfolding chars
word_resourceGroup = refl

pub word_subscription : chars (codes "subscription") ≡ codes "subscription"
unfolding chars
word_subscription = refl

pub word_deployment : chars (codes "deployment") ≡ codes "deployment"
unfolding chars
word_deployment = refl

pub word_subscriptions : chars (codes "subscriptions") ≡ codes "subscriptions"
unfolding chars
word_subscriptions = refl

pub word_providers : chars (codes "providers") ≡ codes "providers"
unfolding chars
word_providers = refl

pub word_resourceGroups : chars (codes "resourceGroups") ≡ codes "resourceGroups"
unfolding chars
word_resourceGroups = refl

pub word_groups : chars (codes "Microsoft.Resources/resourceGroups")
    ≡ codes "Microsoft.Resources/resourceGroups"
unfolding chars
word_groups = refl

pub ruleset words = (
  word_type,
  word_value,
  word_outputs,
  word_properties,
  word_Full,
  word_id,
  word_location,
  word_name,
  word_provisioningState,
  word_Succeeded,
  word_tags,
  word_subscriptionId,
  word_copy,
  word_count,
  word_input,
  word_if,
  word_and,
  word_or,
  word_coalesce,
  word_parameters,
  word_variables,
  word_reference,
  word_copyIndex,
  word_resourceId,
  word_subscriptionResourceId,
  word_resourceGroup,
  word_subscription,
  word_deployment,
  word_subscriptions,
  word_providers,
  word_groups,
  word_resourceGroups,
)
